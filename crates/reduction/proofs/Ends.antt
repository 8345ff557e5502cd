-- The end of a whole run, of which a reduction is read out.
use Rattle.std.proofs.Common.{◌≡◌, Some, Option, arith}
use Rattle.std.specs.Option.{IsSome}
use Rattle.rule.specs.declared.pair.AdmittedPair.{AdmittedPair}
use Rattle.frame.specs.declared.reduction.Reduction.{Reduction}
use Rattle.engine.specs.Meaning.{Meaning}
use Rattle.engine.specs.Runs.{spent, Finished}
use Rattle.engine.specs.declared.run.Run.{Run}
use Rattle.follower.specs.Following.{table_at}
use Rattle.reduction.specs.Followers.{Tables, first_tables, next_tables}
use Rattle.reduction.specs.Reduces.{Right}
use Rattle.reduction.specs.Results.{Along, ReadsOut}

-- there the engine and followers that were told its commands stand
pub along_finished : (p : AdmittedPair) (r : Run) (m : Meaning) (t : Tables) → Finished p r m → t ≡ table_at first_tables next_tables p (spent r) → Along first_tables next_tables p (spent r) m t
along_finished p r m t f e = assumption

-- there is something to read out
pub reads_finished : (p : AdmittedPair) (r : Run) (m : Meaning) (o : Option Reduction) → Finished p r m → ReadsOut p (spent r) o → IsSome o
reads_finished p r m o f reads = grind arith

-- and it is what the run ends with
pub right_finished : (p : AdmittedPair) (r : Run) (m : Meaning) (n : Reduction) → Finished p r m → ReadsOut p (spent r) (Some n) → Right p r n
right_finished p r m n f reads = grind arith
