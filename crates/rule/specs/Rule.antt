-- The plus-minus rule: its state, its commands, its run and how many commands a run needs.
use Rattle.std.specs.Prelude.{◌≡◌, ℕ, zero, suc, ◌<◌, Bool, true, false, List, [], ◌∷◌, ℤ, pos, ◌+ℤ◌, ◌-ℤ◌, neg_ℤ, int_le, unsigned_abs}
use Rattle.rule.specs.Kind.{Kind, sign_by, summed}
use Rattle.rule.specs.declared.command.Sign.{Sign}
use Rattle.rule.specs.declared.command.Command.{Command}
use Rattle.rule.specs.declared.command.Command.TheVariants.{Both, Cross, Shift, PlusMinus}

-- What the rule works on: a, b and δ, the halvings of both (twos), and the commands done (count).
pub record State (K : Type 0) : Type 0 where
  pub a : K
  pub b : K
  pub δ : ℤ
  pub twos : ℕ
  pub count : ℕ

-- Where the run of x and y starts.
abbrev pub start : {K : Type 0} → K → K → State K
start x y = record { a = x; b = y; δ = pos 0; twos = 0; count = 0 }

-- The command by four tests: a is odd, b is odd, 4 divides a + b, δ is at least 0.
abbrev pub command_by : Bool → Bool → Bool → Bool → Command
command_by false false q x = Both
command_by false true q x = Cross
command_by true false q x = Shift
command_by true true q x = PlusMinus (sign_by q) x

-- The command that the low bits of a and b and δ fix.
unfoldable pub command : {K : Type 0} → Kind K → State K → Command
command k s = command_by (k.odd s.a) (k.odd s.b) (k.fourfold (k.plus s.a s.b)) (int_le (pos 0) s.δ)

-- a and b change places where the mark is set.
abbrev pub exchanged : {K : Type 0} → Bool → State K → State K
exchanged false s = s
exchanged true s = record { a = s.b; b = s.a; δ = s.δ; twos = s.twos; count = s.count }

-- b becomes half of a + b or of a - b, and δ becomes -|δ|.
abbrev pub combined : {K : Type 0} → Kind K → Sign → State K → State K
combined k g s = record { a = s.a; b = k.half (summed k g s.a s.b); δ = neg_ℤ (pos (unsigned_abs s.δ)); twos = s.twos; count = suc s.count }

-- The state once a command is done.
abbrev pub obeyed : {K : Type 0} → Kind K → Command → State K → State K
obeyed k Both s = record { a = k.half s.a; b = k.half s.b; δ = s.δ; twos = suc s.twos; count = suc s.count }
obeyed k Cross s = record { a = s.b; b = k.half s.a; δ = pos 1 -ℤ s.δ; twos = s.twos; count = suc s.count }
obeyed k Shift s = record { a = s.a; b = k.half s.b; δ = s.δ +ℤ pos 1; twos = s.twos; count = suc s.count }
obeyed k (PlusMinus g x) s = combined k g (exchanged x s)

-- The state after the command that it fixes.
unfoldable pub next : {K : Type 0} → Kind K → State K → State K
next k s = obeyed k (command k s) s

-- The state after m commands, whether b has become 0 by then or not.
unfoldable pub after : {K : Type 0} → Kind K → ℕ → State K → State K
after k zero s = s
after k (suc m) s = after k m (next k s)

-- The first m commands.
unfoldable pub told : {K : Type 0} → Kind K → ℕ → State K → List Command
told k zero s = []
told k (suc m) s = command k s ∷ told k m (next k s)

-- b is not 0 before any of the first m commands.
abbrev pub Running : {K : Type 0} → Kind K → State K → ℕ → Type 0
Running k s m = (j : ℕ) → j < m → k.is_zero (after k j s).b ≡ false

-- The need is m: b is 0 after m commands, and not before.
pub record Need {K : Type 0} (k : Kind K) (s : State K) (m : ℕ) : Type 0 where
  pub over : k.is_zero (after k m s).b ≡ true
  pub before : Running k s m
