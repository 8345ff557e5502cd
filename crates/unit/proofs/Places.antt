-- Where a unit stands, from what its type keeps.
use Rattle.std.proofs.Common.{◌≡◌, ℕ, Some, None, Option, sym, refl, ap, ◌∙◌, ap₂}
use Rattle.std.proofs.Math.Logic.{∥∥₁_elim}
use Rattle.std.proofs.Math.Option.{is_set}
use Rattle.std.proofs.Math.IntN.{ℤ_set}
use Rattle.std.proofs.Math.Nat.{ℕ_set}
use Rattle.std.proofs.Math.Bool.{Bool-set}
use mathlib.Core.Sum.{⊎_set}
use Rattle.rule.specs.Pairs.{order_of, start_of}
use Rattle.rule.specs.Rule.{Running}
use Rattle.rule.specs.Whole.{whole}
use Rattle.rule.specs.declared.command.Command.{Command}
use Rattle.rule.specs.declared.pair.AdmittedPair.{AdmittedPair}
use Rattle.engine.specs.Meaning.{Meaning, held, count_of}
use Rattle.reduction.specs.Followers.{Tables, first_tables, next_tables}
use Rattle.reduction.specs.Results.{state_at, Along}
use Rattle.reduction.proofs.Readouts.{count_stands}
use Rattle.unit.specs.Standing.{Contents, Standing, standing_at, standing_of, empty, holds, Stands, Placed}

meaning_set : IsSet Meaning
meaning_set = hlevel (⊎_set, ℤ_set, ℕ_set)

tables_set : IsSet Tables
tables_set = hlevel (is_set, ⊎_set, ℤ_set, ℕ_set, Bool-set)

module _ {T : Type 0} (first : AdmittedPair → T) (turns : T → Command → T) where
  -- b was not 0 before any of the commands, and the engine stands after them
  pub reached : (p : AdmittedPair) (k : ℕ) (m : Meaning) (t : T) → ∥ Along first turns p k m t ∥₁ → Running whole (start_of p) k × (m ≡ held (order_of p) (state_at p k))
  reached p k m t h = ∥∥₁_elim h (hlevel (Bool-set, meaning_set)) (λ a. (a.running, a.engine))

  -- a unit that stands somewhere stands where its pair and its engine say
  pub stands_there : (s : Standing) (c : Contents T) → Stands first turns s c → s ≡ standing_of c
  stands_there empty c e = sym (ap (λ o. standing_at o (count_of c.engine)) e)
  stands_there (holds p k) c h = sym (ap₂ standing_at h.pair (ap count_of h.along.engine ∙ count_stands p k))

-- where it is followed by both tables, which are made of numbers, it is known as it is that a unit stands there
pub stands_in : (c : Contents Tables) → Placed first_tables next_tables c.pair c.engine c.table → Stands first_tables next_tables (standing_of c) c
stands_in c placed = by c.pair refl
  where
    by : (o : Option AdmittedPair) → c.pair ≡ o → Stands first_tables next_tables (standing_at o (count_of c.engine)) c
    by None e = e
    by (Some p) e = record { pair = e; along = ∥∥₁_elim (placed p e) (hlevel (Bool-set, meaning_set, tables_set)) (λ a. a) }
