-- What a list of commands holds.
use Rattle.std.specs.Prelude.{List}
use Rattle.rule.specs.declared.command.Command.{Command}
use Rattle.engine.specs.declared.commands.Commands.{Commands}

-- The commands that have been put into it, in their order.
abbrev pub listed : Commands → List Command
listed c = c.list.items
