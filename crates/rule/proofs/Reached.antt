-- A run goes from reached state to reached state, and all of them are narrow.
use Rattle.std.proofs.Common.{◌≡◌, ℕ, ◌≤◌, Bool, true, false, ℤ, refl, ap, ◌∙◌, subst, arith, pow_mono}
use mathlib.Core.Logic.{∥∥₁_elim}
use native.Mathlib.Bridge.{le_prop}
use Rattle.rule.specs.Rule.{State, start, exchanged, next, after}
use Rattle.rule.specs.Whole.{is_zero, whole}
use Rattle.rule.specs.Admitted.{OperandsAdmitted}
use Rattle.rule.specs.Theorems.{Narrow}
use Rattle.rule.specs.Reached.{Reached}
use Rattle.rule.proofs.Fuel.{after_more, count_next, running_more}
use Rattle.rule.proofs.Whole.{running_narrow}

pub reached_start : (n : ℕ) (x y : ℤ) → OperandsAdmitted n x y → Reached n (start x y)
unfolding after
reached_start n x y h = record { x = x; y = y; operands = h; here = refl; running = λ j l. absurd (omega arith) }

pub reached_next : (n : ℕ) (s : State ℤ) → is_zero s.b ≡ false → Reached n s → Reached n (next whole s)
reached_next n s z r =
    record {
      x = r.x;
      y = r.y;
      operands = r.operands;
      here = ap (λ (m : ℕ). after whole m (start r.x r.y)) (count_next whole s) ∙ after_more whole s.count (start r.x r.y) ∙ ap (next whole) r.here;
      running = rw (count_next whole s) (running_more whole (start r.x r.y) s.count r.running (ap (λ t. is_zero t.b) r.here ∙ z));
    }

-- of a state that is only known to have been reached somehow
pub narrow_word : (n : ℕ) (s : State ℤ) → n ≤ 56 → ∥ Reached n s ∥₁ → Narrow 56 s
narrow_word n s l r =
    ∥∥₁_elim r (hlevel le_prop) (λ q.
    let h = subst (Narrow n) q.here (running_narrow n q.x q.y q.operands.0 q.operands.1 s.count q.running) in
    omega (arith, pow_mono l))

pub narrow_exchanged : (n : ℕ) (x : Bool) (s : State ℤ) → Narrow n s → Narrow n (exchanged x s)
narrow_exchanged n false s h = h
narrow_exchanged n true s h = assumption
