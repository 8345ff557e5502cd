-- What the calls of a follower do to its table, and what every follower has to show.
use Rattle.std.specs.Prelude.{◌≡◌, ℕ, Bool, true, false, List, [], ◌∷◌, ℤ, Ok, Err, Some, None, Option, Result}
use Rattle.rule.specs.Pairs.{start_of}
use Rattle.rule.specs.Refusal.{fault}
use Rattle.rule.specs.Rule.{State, command, after, told, Running}
use Rattle.rule.specs.Whole.{is_zero, whole}
use Rattle.rule.specs.declared.command.Command.{Command}
use Rattle.rule.specs.declared.fault.Fault.{Fault}
use Rattle.rule.specs.declared.fault.Layer.TheVariants.{Follower}
use Rattle.rule.specs.declared.fault.Reason.TheVariants.{CommandNotTaken}
use Rattle.rule.specs.declared.pair.AdmittedPair.{AdmittedPair}

-- A command that is taken turns the table; any other is refused, and the table stays.
abbrev pub Followed : {T : Type 0} → (T → Command → Bool) → (T → Command → T) → T → Command → Result (Unit {0}) Fault → T → Type 0
Followed accepts turns t c (Ok _) t' = (accepts t c ≡ true) × (t' ≡ turns t c)
Followed accepts turns t c (Err f) t' = (accepts t c ≡ false) × (f ≡ fault CommandNotTaken Follower 0) × (t' ≡ t)

-- The table after a list of commands.
unfoldable pub turned : {T : Type 0} → (T → Command → T) → T → List Command → T
turned turns t [] = t
turned turns t (c ∷ cs) = turned turns (turns t c) cs

-- The table after k commands of the run of a pair, told from its start.
abbrev pub table_at : {T : Type 0} → (AdmittedPair → T) → (T → Command → T) → AdmittedPair → ℕ → T
table_at first turns p k = turned turns (first p) (told whole k (start_of p))

-- After k commands of the run the table is in its relation to where the rule stands, and the next command is taken.
pub record FollowsTo {T : Type 0} (first : AdmittedPair → T) (accepts : T → Command → Bool) (turns : T → Command → T) (relation : AdmittedPair → T → State ℤ → Type 0) (p : AdmittedPair) (k : ℕ) : Type 0 where
  pub related : relation p (table_at first turns p k) (after whole k (start_of p))
  pub takes : is_zero (after whole k (start_of p)).b ≡ false → accepts (table_at first turns p k) (command whole (after whole k (start_of p))) ≡ true

-- This holds all along the run of every admitted pair.
abbrev pub Follows : {T : Type 0} → (AdmittedPair → T) → (T → Command → Bool) → (T → Command → T) → (AdmittedPair → T → State ℤ → Type 0) → Type 0
Follows first accepts turns relation = (p : AdmittedPair) (k : ℕ) → Running whole (start_of p) k → FollowsTo first accepts turns relation p k

-- A table that means t if the test holds, and nothing if it does not.
abbrev pub Settled : {S T : Type 0} → (S → T) → Bool → T → Option S → Type 0
Settled rows test t None = test ≡ false
Settled rows test t (Some s) = (test ≡ true) × (rows s ≡ t)

-- The same of a follower that holds no table before it is begun, and takes no command then.
abbrev pub begun_first : {T : Type 0} → (AdmittedPair → T) → AdmittedPair → Option T
begun_first first p = Some (first p)

abbrev pub begun_accepts : {T : Type 0} → (T → Command → Bool) → Option T → Command → Bool
begun_accepts accepts None c = false
begun_accepts accepts (Some t) c = accepts t c

abbrev pub begun_turns : {T : Type 0} → (T → Command → T) → Option T → Command → Option T
begun_turns turns None c = None
begun_turns turns (Some t) c = Some (turns t c)

abbrev pub BegunRelated : {T : Type 0} → (AdmittedPair → T → State ℤ → Type 0) → AdmittedPair → Option T → State ℤ → Type 0
BegunRelated relation p None s = ⊥
BegunRelated relation p (Some t) s = relation p t s
