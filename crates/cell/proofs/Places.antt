-- The numbers that a run still owes, and one place of them.
use Rattle.std.proofs.Common.{◌≡◌, Bool, true, false, ℤ, pos, ◌+ℤ◌, ◌-ℤ◌, refl, sym, ◌∙◌, ap₂, arith}
use Rattle.std.proofs.lemmas.Int.{ints}
use Rattle.std.proofs.lemmas.Bool.Decides.{nat_tests}
use Rattle.rule.specs.Whole.{odd, half}
use Rattle.rule.specs.declared.command.Sign.{Sign}
use Rattle.rule.specs.declared.command.Sign.TheVariants.{Plus, Minus}
use Rattle.rule.specs.declared.command.Command.{Command}
use Rattle.rule.specs.declared.command.Command.TheVariants.{Both, Cross, Shift, PlusMinus}
use Rattle.cell.specs.Bits.{sum_bit, carried}
use Rattle.cell.specs.Runs.{place}
use Rattle.cell.specs.declared.run.Run.{Run}

-- a bit as a number
unfoldable pub num : Bool → ℤ
num false = pos 0
num true = pos 1

-- twice x, with the bit p below
abbrev pub over : Bool → ℤ → ℤ
over p x = x +ℤ x +ℤ num p

-- the sum or difference of x and y with the carry or borrow c
abbrev pub joined : Sign → ℤ → ℤ → Bool → ℤ
joined Plus x y c = x +ℤ y +ℤ num c
joined Minus x y c = x -ℤ y -ℤ num c

-- ---- the numbers whose bits a run has still to give, where the bits of x and y are still to come
abbrev pub owed_a : Command → Run → ℤ → ℤ → ℤ
owed_a Both r x y = x
owed_a Cross r x y = over r.b y
owed_a Shift r x y = over r.a x
owed_a (PlusMinus g false) r x y = over r.a x
owed_a (PlusMinus g true) r x y = over r.b y

abbrev pub owed_b : Command → Run → ℤ → ℤ → ℤ
owed_b Both r x y = y
owed_b Cross r x y = x
owed_b Shift r x y = y
owed_b (PlusMinus g false) r x y = joined g x y r.carry
owed_b (PlusMinus g true) r x y = joined g y x r.carry

-- the run once the lowest bits of x and y are taken
abbrev pub went : Command → Run → ℤ → ℤ → Run
went k r x y = record { command = k; a = odd x; b = odd y; carry = (place k r (odd x) (odd y)).carry }

-- ---- one place
-- the lowest bit of twice x and p, and what is above it
pub over_place : (p : Bool) (x : ℤ) → (odd (over p x) ≡ p) × (half (over p x) ≡ x)
unfolding odd half num
over_place true x = (grind (arith, ints, nat_tests), grind (arith, ints, nat_tests))
over_place false x = (grind (arith, ints, nat_tests), grind (arith, ints, nat_tests))

pub split : (x : ℤ) → over (odd x) (half x) ≡ x
unfolding odd half num
split x = grind (arith, ints, nat_tests)

-- a place is right by its bits alone
digits : (g : Sign) (p q c : Bool) → joined g (num p) (num q) c ≡ over (sum_bit p q c) (joined g (pos 0) (pos 0) (carried g p q c))
unfolding num
digits g p q c = grind arith

joined_over : (g : Sign) (p q c : Bool) (x y : ℤ) → joined g (over p x) (over q y) c ≡ over (sum_bit p q c) (joined g x y (carried g p q c))
joined_over Plus p q c x y = omega (arith, ints, digits Plus p q c)
joined_over Minus p q c x y = omega (arith, ints, digits Minus p q c)

joined_split : (g : Sign) (x y : ℤ) (c : Bool) → joined g x y c ≡ over (sum_bit (odd x) (odd y) c) (joined g (half x) (half y) (carried g (odd x) (odd y) c))
joined_split g x y c = ap₂ (λ v w. joined g v w c) (sym (split x)) (sym (split y)) ∙ joined_over g (odd x) (odd y) c (half x) (half y)

-- the lowest bit of a sum or difference, and what is above it
pub joined_place : (g : Sign) (x y : ℤ) (c : Bool) → (odd (joined g x y c) ≡ sum_bit (odd x) (odd y) c) × (half (joined g x y c) ≡ joined g (half x) (half y) (carried g (odd x) (odd y) c))
joined_place g x y c = rw (joined_split g x y c) (over_place _ _)

-- ---- what a run gives are the lowest bits of what it owes, and what it owes then is the rest
pub record Emits (k : Command) (r : Run) (x y : ℤ) : Type 0 where
  pub a : odd (owed_a k r x y) ≡ (place k r (odd x) (odd y)).a
  pub b : odd (owed_b k r x y) ≡ (place k r (odd x) (odd y)).b
  pub rest_a : half (owed_a k r x y) ≡ owed_a k (went k r x y) (half x) (half y)
  pub rest_b : half (owed_b k r x y) ≡ owed_b k (went k r x y) (half x) (half y)

pub emits : (k : Command) (r : Run) (x y : ℤ) → Emits k r x y
emits Both r x y = record { a = refl; b = refl; rest_a = refl; rest_b = refl }
emits Cross r x y = let o = over_place r.b y in record { a = o.0; b = refl; rest_a = o.1 ∙ sym (split y); rest_b = refl }
emits Shift r x y = let o = over_place r.a x in record { a = o.0; b = refl; rest_a = o.1 ∙ sym (split x); rest_b = refl }
emits (PlusMinus g false) r x y =
    let o = over_place r.a x in
    let j = joined_place g x y r.carry in
    record { a = o.0; b = j.0; rest_a = o.1 ∙ sym (split x); rest_b = j.1 }
emits (PlusMinus g true) r x y =
    let o = over_place r.b y in
    let j = joined_place g y x r.carry in
    record { a = o.0; b = j.0; rest_a = o.1 ∙ sym (split y); rest_b = j.1 }
