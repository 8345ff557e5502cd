-- The rule does to the marked pairs what stands beside them, by computing.
use Rattle.std.proofs.Common.{◌≡◌, ℕ, zero, suc, ◌^◌, Bool, true, not, ◌&&◌, ltb, leb, length, nat_abs, arith}
use Rattle.std.proofs.lemmas.Bool.{and_parts, not-true}
use Rattle.std.proofs.lemmas.Bool.Decides.{nat_tests}
use Rattle.std.specs.List.{AllByRecursion as All}
use Rattle.rule.specs.Rule.{State, start, command, next, after, told, Need}
use Rattle.rule.specs.Kind.{Kind}
use Rattle.rule.specs.Whole.{is_zero, odd, half, fourfold, whole}
use Rattle.rule.specs.Divisor.{divisor}
use Rattle.rule.specs.Marked.{Line, marked, Holds}
use Rattle.rule.proofs.Fuel.{need_none, need_more}

-- whether m is the need
ends_at : {K : Type 0} → Kind K → ℕ → State K → Bool
ends_at k zero s = k.is_zero s.b
ends_at k (suc m) s = not (k.is_zero s.b) && ends_at k m (next k s)

ends_at_lem : {K : Type 0} (k : Kind K) (m : ℕ) (s : State K) → ends_at k m s ≡ true → Need k s m
unfolding ends_at
ends_at_lem k zero s e = need_none k s e
ends_at_lem k (suc m) s e =
    let w = and_parts (not (k.is_zero s.b)) (ends_at k m (next k s)) e in
    need_more k s m (not-true (k.is_zero s.b) w.0) (ends_at_lem k m (next k s) w.1)

admits : Line → Bool
admits l = leb 1 l.order && leb l.order 56 && ltb (nat_abs l.a) (2 ^ l.order) && ltb (nat_abs l.b) (2 ^ l.order) && not (is_zero l.b)

holds : (l : Line) → admits l ≡ true → ends_at whole (length l.commands) (start l.a l.b) ≡ true → told whole (length l.commands) (start l.a l.b) ≡ l.commands → divisor (after whole (length l.commands) (start l.a l.b)) ≡ l.g → Holds l
unfolding admits
holds l h e c g = record { order = (grind (arith, nat_tests), grind (arith, nat_tests)); operands = (grind (arith, nat_tests), grind (arith, nat_tests), λ z. grind (arith, nat_tests)); need = ends_at_lem whole _ _ e; commands = c; divisor = g }

pub marked_hold : All Holds marked
unfolding odd half fourfold command next after told ends_at admits
marked_hold = search holds
