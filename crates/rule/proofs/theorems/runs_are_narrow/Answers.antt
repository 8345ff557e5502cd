use Rattle.rule.proofs.Whole.{run_narrow}
use Rattle.rule.proofs.theorems.runs_are_narrow.Goals as goal

pub returns : goal.returns
returns c = run_narrow
