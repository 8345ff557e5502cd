use Rattle.std.proofs.Common.{ℤ, ap₂, rules}
use Rattle.follower.specs.declared.row.Row.{Row}
use Rattle.follower.proofs.signed.Row+i64.summed.Goals as goal

row : ℤ → ℤ → Row ℤ
row x y = record { left = x; right = y }

pub returns-in-Plus : goal.returns-in-Plus
unfolding row
returns-in-Plus c = ap₂ row (search rules) (search rules)

pub returns-in-Minus : goal.returns-in-Minus
unfolding row
returns-in-Minus c = ap₂ row (search rules) (search rules)
