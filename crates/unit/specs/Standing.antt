-- What a unit holds, and where it stands.
use Rattle.std.specs.Prelude.{◌≡◌, ℕ, Some, None, Option}
use Rattle.std.specs.Option.{ForSome}
use Rattle.rule.specs.declared.command.Command.{Command}
use Rattle.rule.specs.declared.pair.AdmittedPair.{AdmittedPair}
use Rattle.engine.specs.Meaning.{Meaning, count_of}
use Rattle.reduction.specs.Results.{Along}

-- All that a unit holds: the pair, if there is one, the stint, what its engine means and the table of its followers.
pub record Contents (T : Type 0) : Type 0 where
  pub pair : Option AdmittedPair
  pub stint : ℕ
  pub engine : Meaning
  pub table : T

-- Where a unit stands: empty, or so many commands into the run of the pair that it holds.
pub data Standing : Type 0 where
  empty : Standing
  holds : AdmittedPair → ℕ → Standing

-- As many commands into the run of the pair as the engine counts, if there is a pair.
abbrev pub standing_at : Option AdmittedPair → ℕ → Standing
standing_at None k = empty
standing_at (Some p) k = holds p k

abbrev pub standing_of : {T : Type 0} → Contents T → Standing
standing_of c = standing_at c.pair (count_of c.engine)

-- The unit holds p, and its engine and followers have come k commands along the run of p.
pub record Holds {T : Type 0} (first : AdmittedPair → T) (turns : T → Command → T) (p : AdmittedPair) (k : ℕ) (c : Contents T) : Type 0 where
  pub pair : c.pair ≡ Some p
  pub along : Along first turns p k c.engine c.table

-- A unit with these contents stands so. What the engine and the followers of an empty unit hold does not matter.
abbrev pub Stands : {T : Type 0} → (AdmittedPair → T) → (T → Command → T) → Standing → Contents T → Type 0
Stands first turns empty c = c.pair ≡ None
Stands first turns (holds p k) c = Holds first turns p k c

-- Of every unit: where it holds a pair, its engine and followers have come as many commands along the run as the engine counts.
abbrev pub Placed : {T : Type 0} → (AdmittedPair → T) → (T → Command → T) → Option AdmittedPair → Meaning → T → Type 0
Placed first turns pair m t = ForSome pair (λ p. ∥ Along first turns p (count_of m) m t ∥₁)
