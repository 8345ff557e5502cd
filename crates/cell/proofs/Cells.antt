-- A cell that takes the links of a state gives those of the next.
use Rattle.std.proofs.Common.{◌≡◌, ℕ, zero, suc, ◌^◌, ◌<◌, Bool, true, false, ℤ, pos, ◌+ℤ◌, unsigned_abs, int_le, refl, sym, ap, ◌∙◌, ap₂, arith, w16}
use Rattle.std.specs.Int.{int_wrap}
use Rattle.std.proofs.lemmas.Int.{ints, int_wrap_fits, fits_signed_from_abs}
use Rattle.std.proofs.lemmas.Bool.Decides.{nat_tests}
use Rattle.rule.specs.Kind.{sign_by, summed}
use Rattle.rule.specs.Rule.{State, command_by, command, obeyed, next}
use Rattle.rule.specs.Whole.{odd, half, fourfold, whole}
use Rattle.rule.specs.declared.command.Command.{Command}
use Rattle.rule.specs.declared.command.Command.TheVariants.{PlusMinus}
use Rattle.cell.specs.Bits.{bit, differ}
use Rattle.cell.specs.Links.{links}
use Rattle.cell.specs.Runs.{first_carry}
use Rattle.cell.specs.Cells.{delta_after, twos_after, gives}
use Rattle.cell.specs.Theorems.{HasRoom, CellObeys}
use Rattle.cell.specs.declared.link.Link.{Link}
use Rattle.cell.specs.declared.run.Run.{Run}
use Rattle.cell.specs.declared.cell.Cell.TheVariants.{Idle, Running}
use Rattle.cell.proofs.Places.{num, joined, owed_a, owed_b, went, split, emits}

-- ---- the links that a running cell gives
abbrev plain : ℤ → ℤ → ℕ → Link
plain x y j = record { start = false; a = bit j x; b = bit j y; delta = pos 0; twos = 0 }

runs : (j : ℕ) (r : Run) (x y : ℤ) → gives (Running r) (plain x y) j ≡ plain (owed_a r.command r x y) (owed_b r.command r x y) j
unfolding gives bit
runs zero r x y = let e = emits r.command r x y in rw (e.a, e.b) refl
runs (suc j) r x y =
    let e = emits r.command r x y in
    runs j (went r.command r x y) (half x) (half y) ∙ ap₂ (λ v w. plain v w j) (sym e.rest_a) (sym e.rest_b)

-- ---- the command that is fixed is the rule's
fourfold_sum : (x y : ℤ) → odd x ≡ true → odd y ≡ true → fourfold (x +ℤ y) ≡ differ (odd (half x)) (odd (half y))
unfolding odd half fourfold
fourfold_sum x y o p = grind (arith, ints, nat_tests)

pub fixed_by : (x y : ℤ) (p q d : Bool) → odd x ≡ p → odd y ≡ q → command_by p q (differ (odd (half x)) (odd (half y))) d ≡ command_by p q (fourfold (x +ℤ y)) d
fixed_by x y false false d e f = refl
fixed_by x y false true d e f = refl
fixed_by x y true false d e f = refl
fixed_by x y true true d e f = rw (fourfold_sum x y e f) refl

-- ---- the run that it begins owes the numbers of the next state
-- the run of a command that has taken the lowest bits of a state
abbrev first : Command → State ℤ → Run
first k s = record { command = k; a = odd s.a; b = odd s.b; carry = first_carry k }

record Owes (k : Command) (s t : State ℤ) : Type 0 where
  a : owed_a k (first k s) (half s.a) (half s.b) ≡ t.a
  b : owed_b k (first k s) (half s.a) (half s.b) ≡ t.b
  δ : delta_after k s.δ ≡ t.δ
  twos : twos_after k s.twos ≡ t.twos

half_joined : (f d : Bool) (x y : ℤ) → odd x ≡ true → odd y ≡ true → joined (sign_by f) (half x) (half y) (first_carry (PlusMinus (sign_by f) d)) ≡ half (summed whole (sign_by f) x y)
unfolding odd half num
half_joined true d x y o p = grind (arith, ints, nat_tests)
half_joined false d x y o p = grind (arith, ints, nat_tests)

wrap_fits : (z : ℤ) → unsigned_abs z < 2 ^ 15 → int_wrap w16 z ≡ z
wrap_fits z l = int_wrap_fits w16 z (fits_signed_from_abs w16 z l)

owes_by : (s : State ℤ) → HasRoom s → (p q f d : Bool) → odd s.a ≡ p → odd s.b ≡ q → Owes (command_by p q f d) s (obeyed whole (command_by p q f d) s)
owes_by s w false false f d o i = record { a = refl; b = refl; δ = refl; twos = omega (arith, w.twos) }
owes_by s w false true f d o i = record { a = split s.b; b = refl; δ = wrap_fits _ (omega (arith, ints, w.δ)); twos = refl }
owes_by s w true false f d o i = record { a = split s.a; b = refl; δ = wrap_fits _ (omega (arith, ints, w.δ)); twos = refl }
owes_by s w true true f false o i = record { a = split s.a; b = half_joined f _ s.a s.b o i; δ = refl; twos = refl }
owes_by s w true true f true o i = record { a = split s.b; b = half_joined f _ s.b s.a i o; δ = refl; twos = refl }

-- the command that the first two links of a state fix
abbrev fixed_of : State ℤ → Command
fixed_of s = command_by (odd s.a) (odd s.b) (differ (odd (half s.a)) (odd (half s.b))) (int_le (pos 0) s.δ)

owes : (s : State ℤ) → HasRoom s → Owes (fixed_of s) s (next whole s)
unfolding next command
owes s w = rw (fixed_by s.a s.b (odd s.a) (odd s.b) (int_le (pos 0) s.δ) refl refl) (owes_by s w (odd s.a) (odd s.b) (fourfold (s.a +ℤ s.b)) (int_le (pos 0) s.δ) refl refl)

-- ---- a cell
opens : (s : State ℤ) → HasRoom s → (k : ℕ) → gives Idle (links s) (suc k) ≡ links (next whole s) k
unfolding gives links bit
opens s w zero =
    let o = owes s w in
    let e = emits (fixed_of s) (first (fixed_of s) s) (half s.a) (half s.b) in
    rw (← e.a, ← e.b, o.a, o.b, o.δ, o.twos) refl
opens s w (suc k) =
    let o = owes s w in
    let e = emits (fixed_of s) (first (fixed_of s) s) (half s.a) (half s.b) in
    runs k (went (fixed_of s) (first (fixed_of s) s) (half s.a) (half s.b)) (half (half s.a)) (half (half s.b))
    ∙ ap₂ (λ v w. plain v w k) (sym e.rest_a ∙ ap half o.a) (sym e.rest_b ∙ ap half o.b)

pub cell_obeys : CellObeys
unfolding gives links
cell_obeys s w = (refl, opens s w)
