-- The letters in which the commands of a run are published.
use Rattle.std.specs.Prelude.{ℕ, true, false, List, codes}
use Rattle.rule.specs.declared.command.Sign.TheVariants.{Plus, Minus}
use Rattle.rule.specs.declared.command.Command.{Command}
use Rattle.rule.specs.declared.command.Command.TheVariants.{Both, Cross, Shift, PlusMinus}

abbrev pub letters : Command → List ℕ
letters Both = codes "B"
letters Cross = codes "C"
letters Shift = codes "S"
letters (PlusMinus Plus false) = codes "P"
letters (PlusMinus Minus false) = codes "M"
letters (PlusMinus Plus true) = codes "XP"
letters (PlusMinus Minus true) = codes "XM"
