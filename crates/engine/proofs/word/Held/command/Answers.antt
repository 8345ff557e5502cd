use Rattle.std.proofs.Common.{rules}
use Rattle.rule.specs.Rule.{command}
use Rattle.engine.proofs.word.Held.command.Goals as goal

pub returns : goal.returns
unfolding command
returns c = search rules
