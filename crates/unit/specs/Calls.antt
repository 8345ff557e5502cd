-- What each call of a unit does to it.
use Rattle.std.specs.Prelude.{◌≡◌, ℕ, false, List, is_ok, Result}
use Rattle.rule.specs.declared.fault.Fault.{Fault}
use Rattle.rule.specs.declared.pair.AdmittedPair.{AdmittedPair}
use Rattle.engine.specs.declared.engine.Engine as Engine
use Rattle.follower.specs.declared.follower.Follower as Follower
use Rattle.unit.specs.Answers.{LoadAnswer, loaded_to, stint_answer, stinted_to, WorkAnswer, worked_to, CollectAnswer, clear_answer}
use Rattle.unit.specs.Standing.{Contents, Standing, standing_of, empty, Stands}
use Rattle.unit.specs.declared.unit.Unit.{Unit as AnyUnit}
use Rattle.unit.specs.declared.unit.Worked.{Worked}

-- What a unit holds, by what its engine and its followers mean.
abbrev pub contents : {E F : Type 0} {e : Engine.Ghosts E} {f : Follower.Ghosts F} → AnyUnit E F e f → Contents f.Table
contents {e} {f} u = record { pair = u.pair; stint = u.stint; engine = e.meaning u.engine; table = f.table u.followers }

-- Where it stands.
abbrev pub place : {E F : Type 0} {e : Engine.Ghosts E} {f : Follower.Ghosts F} → AnyUnit E F e f → Standing
place u = standing_of (contents u)

-- The unit stands so after a call, with this stint; where the call was refused, nothing that it holds has changed.
pub record Leaves {E F X : Type 0} {e : Engine.Ghosts E} {f : Follower.Ghosts F} (r : Result X Fault) (u u' : AnyUnit E F e f) (s : Standing) (most : ℕ) : Type 0 where
  pub standing : place u' ≡ s
  pub stint : u'.stint ≡ most
  pub unmoved : is_ok r ≡ false → contents u' ≡ contents u
  -- What the type keeps of the tables in ∥ ∥₁ is known again as it is, where it was.
  pub stands : Stands f.first f.turns (place u) (contents u) → Stands f.first f.turns s (contents u')

-- Each call: what it answers, and what it leaves.
module _ {E F : Type 0} {e : Engine.Ghosts E} {f : Follower.Ghosts F} where
  abbrev pub Loads : AnyUnit E F e f → List ℕ → Result AdmittedPair Fault → AnyUnit E F e f → Type 0
  Loads u frame r u' = LoadAnswer e.largest (place u) frame r × Leaves r u u' (loaded_to (place u) r) u.stint

  abbrev pub Stints : AnyUnit E F e f → ℕ → Result (Unit {0}) Fault → AnyUnit E F e f → Type 0
  Stints u most r u' = (r ≡ stint_answer most) × Leaves r u u' (place u) (stinted_to u.stint most r)

  abbrev pub Works : AnyUnit E F e f → ℕ → Result Worked Fault → AnyUnit E F e f → Type 0
  Works u budget r u' = WorkAnswer (place u) u.stint budget r × Leaves r u u' (worked_to (place u) r) u.stint

  abbrev pub Collects : AnyUnit E F e f → List ℕ → Result ℕ Fault → List ℕ → Type 0
  Collects u before r after = CollectAnswer (place u) before r after

  abbrev pub Clears : AnyUnit E F e f → Result (Unit {0}) Fault → AnyUnit E F e f → Type 0
  Clears u r u' = (r ≡ clear_answer (place u)) × Leaves r u u' empty u.stint
