-- One command through a cell: what is told, and the state that it leaves.
use Rattle.std.proofs.Common.{◌≡◌, ℕ, ◌+◌, ◌≤◌, ◌∙◌, Bool, true, false, ℤ, pos, Some, suc, w16, w64, SFits, to_z, of_z, refl, ap, subst, arith, int_le}
use mathlib.Core.Logic.{∥∥₁_elim, ∥∥₁_map}
use native.Mathlib.Bridge.{le_prop}
use Rattle.std.proofs.lemmas.Int.{to_z-of_z}
use Rattle.rule.specs.Reached.{Reached}
use Rattle.rule.specs.Rule.{State, command, next}
use Rattle.rule.specs.Theorems.{Narrow}
use Rattle.rule.specs.Whole.{is_zero, odd, half, whole}
use Rattle.rule.proofs.Reached.{reached_next}
use Rattle.rule.proofs.Fuel.{count_next}
use Rattle.rule.proofs.Whole.{running_narrow}
use Rattle.cell.specs.Bits.{bit}
use Rattle.cell.specs.Cells.{gives, taken}
use Rattle.cell.specs.Links.{links}
use Rattle.cell.specs.Theorems.{HasRoom}
use Rattle.cell.specs.declared.cell.Cell.TheVariants.{Started}
use Rattle.cell.specs.declared.link.Link.{Link}
use Rattle.cell.proofs.Cells.{fixed_by, cell_obeys}
use Rattle.cell_engine.specs.Passing.{plain, sent, command_in, Gives, Stands, ReadsBack}
use Rattle.cell_engine.specs.Words.{standing}
use Rattle.cell_engine.specs.declared.passage.Passage.{Passage}

-- ---- the link with the start mark, and the passage after it
pub started : (s : State ℤ) {p q : Bool} {d : ℤ} → p ≡ odd s.a → q ≡ odd s.b → d ≡ s.δ → record { start = true; a = p; b = q; delta = d; twos = s.twos } ≡ links s 0
unfolding links bit
started s e f g = rw (e, f, g) refl

-- both numbers of a state on their way
abbrev pub passage_of : State ℤ → Passage
passage_of s = record { cell = Started (links s 0); a = half s.a; b = half s.b }

pub passage_is : {p : Passage} (s : State ℤ) → p.cell ≡ Started (links s 0) → p.a ≡ half s.a → p.b ≡ half s.b → p ≡ passage_of s
passage_is {p = p} s e f g =
    let h : record { cell = p.cell; a = p.a; b = p.b } ≡ passage_of s = rw (e, f, g) refl in
    h

-- ---- the widths
pub narrow_there : (n : ℕ) (s : State ℤ) → ∥ Reached n s ∥₁ → Narrow n s
narrow_there n s r = ∥∥₁_elim r (hlevel le_prop) (λ q. subst (Narrow n) q.here (running_narrow n q.x q.y q.operands.0 q.operands.1 s.count q.running))

pub reached_more : (n : ℕ) (s : State ℤ) → is_zero s.b ≡ false → ∥ Reached n s ∥₁ → ∥ Reached n (next whole s) ∥₁
reached_more n s z r = ∥∥₁_map r (reached_next n s z)

room : (n : ℕ) (s : State ℤ) → n ≤ 48 → Narrow n s → HasRoom s
room n s l h = record { δ = omega (arith, h.δ); twos = omega (arith, h.twos) }

-- ---- the command

-- the cell runs the command of the state
pub command_told : (s : State ℤ) → command_in (sent (passage_of s)).cell ≡ Some (command whole s)
unfolding command links bit
command_told s = ap Some (fixed_by s.a s.b (odd s.a) (odd s.b) (int_le (pos 0) s.δ) refl refl)

-- ---- the links that come back
opened : (s : State ℤ) → HasRoom s → (taken (passage_of s).cell (plain (passage_of s).a (passage_of s).b 0)).given ≡ links (next whole s) 0
unfolding gives links bit
opened s w = (cell_obeys s w).1 0

followed : (s : State ℤ) → HasRoom s → Gives (sent (passage_of s)) (half (next whole s).a) (half (next whole s).b)
unfolding gives links bit
followed s w = λ k. (cell_obeys s w).1 (suc k)

-- they stand for the numbers of the next state
stands : (n : ℕ) (s : State ℤ) (l : Link) → n ≤ 48 → ∥ Reached n s ∥₁ → is_zero s.b ≡ false → l ≡ links (next whole s) 0 → Stands (sent (passage_of s)) l n (next whole s).a (next whole s).b
unfolding links bit
stands n s l m r z e =
    let t = narrow_there n (next whole s) (reached_more n s z r) in
    record { a = ap (λ x. x.a) e; b = ap (λ x. x.b) e; rest = followed s (room n s m (narrow_there n s r)); below_a = t.a; below_b = t.b }

-- the numbers read back are those of the next state, here in words
pub arrived : (n : ℕ) (s : State ℤ) {p p' : Passage} {l : Link} {m : ℕ} {r : ℤ × ℤ} → n ≤ 48 → ∥ Reached n s ∥₁ → is_zero s.b ≡ false → p ≡ passage_of s → l ≡ (taken p.cell (plain p.a p.b 0)).given → p' ≡ sent p → m ≡ n → ReadsBack p' l m r → SFits w64 r.0 → SFits w64 r.1 → SFits w16 l.delta → standing (to_z w64 (of_z w64 r.0)) (to_z w64 (of_z w64 r.1)) (to_z w16 (of_z w16 l.delta)) l.twos (s.count + 1) ≡ next whole s
unfolding links
arrived n s {l = l} {m = m} {r = r} h i z q e v w f x y u =
    let t = next whole s in
    let g : l ≡ links t 0 = e ∙ ap (λ x. (taken x.cell (plain x.a x.b 0)).given) q ∙ opened s (room n s h (narrow_there n s i)) in
    let k = subst (λ j. ReadsBack (sent (passage_of s)) l j r) w (subst (λ p. ReadsBack p l m r) (v ∙ ap sent q) f) t.a t.b (stands n s l h i z g) in
    let d : to_z w16 (of_z w16 l.delta) ≡ t.δ = to_z-of_z w16 l.delta u ∙ ap (λ x. x.delta) g in
    let o : l.twos ≡ t.twos = ap (λ x. x.twos) g in
    let c : s.count + 1 ≡ t.count = omega (arith, count_next whole s) in
    rw (to_z-of_z w64 r.0 x, to_z-of_z w64 r.1 y, k.0, k.1, d, o, c) refl
