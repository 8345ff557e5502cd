use Rattle.rule.proofs.Divisor.{divisor_greatest}
use Rattle.rule.proofs.theorems.divisor_is_greatest.Goals as goal

pub returns : goal.returns
returns c = divisor_greatest
