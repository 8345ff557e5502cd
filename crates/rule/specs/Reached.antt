-- The states that the runs of admitted pairs go through.
use Rattle.std.specs.Prelude.{◌≡◌, ℕ, ℤ}
use Rattle.rule.specs.Rule.{State, start, after, Running}
use Rattle.rule.specs.Whole.{whole}
use Rattle.rule.specs.Admitted.{OperandsAdmitted}

-- The rule stands at s on its way from operands x, y of order n to its end.
pub record Reached (n : ℕ) (s : State ℤ) : Type 0 where
  pub x : ℤ
  pub y : ℤ
  pub operands : OperandsAdmitted n x y
  pub here : after whole s.count (start x y) ≡ s
  pub running : Running whole (start x y) s.count
