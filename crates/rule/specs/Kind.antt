-- A kind of number that the plus-minus rule can work on, and the laws that its bound on commands rests on.
use Rattle.std.specs.Prelude.{◌≡◌, ℕ, suc, ◌≤◌, Bool, true, false}
use Rattle.rule.specs.declared.command.Sign.{Sign}
use Rattle.rule.specs.declared.command.Sign.TheVariants.{Plus, Minus}

-- What the rule asks of an operand, and what it does to operands.
pub record Kind (K : Type 0) : Type 0 where
  pub is_zero : K → Bool
  pub odd : K → Bool
  pub fourfold : K → Bool
  pub half : K → K
  pub plus : K → K → K
  pub minus : K → K → K

-- The sign by whether 4 divides the sum: plus where it does.
abbrev pub sign_by : Bool → Sign
sign_by true = Plus
sign_by false = Minus

-- x plus or minus y, by the sign.
abbrev pub summed : {K : Type 0} → Kind K → Sign → K → K → K
summed k Plus x y = k.plus x y
summed k Minus x y = k.minus x y

-- Half of x + y where 4 divides x + y, and half of x - y elsewhere.
abbrev pub joined : {K : Type 0} → Kind K → K → K → K
joined k x y = k.half (summed k (sign_by (k.fourfold (k.plus x y))) x y)

-- The laws of parity, halving, sums and size, where `Below m x` says that the size of x is below 2^m.
pub record Laws {K : Type 0} (k : Kind K) (Below : ℕ → K → Type 0) : Type 0 where
  pub below_none : (x : K) → Below 0 x → k.is_zero x ≡ true
  pub below_more : (m n : ℕ) (x : K) → m ≤ n → Below m x → Below n x
  pub half_below : (m : ℕ) (x : K) → k.odd x ≡ false → Below (suc m) x → Below m (k.half x)
  pub plus_comm : (x y : K) → k.plus x y ≡ k.plus y x
  pub joined_even : (x y : K) → k.odd x ≡ true → k.odd y ≡ true → k.odd (joined k x y) ≡ false
  pub joined_below : (m : ℕ) (x y : K) → k.odd x ≡ true → k.odd y ≡ true → Below m x → Below m y → Below m (joined k x y)
