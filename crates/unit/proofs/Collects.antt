-- What a unit that holds a pair gives of its result.
use Rattle.std.proofs.Common.{◌≡◌, ℕ, zero, suc, ◌+◌, List, length, drop, Some, None, Ok, Err, Option, Result, sym, ap, ◌∙◌, subst, arith, length-append}
use Rattle.std.proofs.lemmas.Option.{none-some, same_Some}
use Rattle.rule.specs.Pairs.{start_of}
use Rattle.rule.specs.Rule.{Running, Need}
use Rattle.rule.specs.Whole.{whole}
use Rattle.rule.specs.declared.fault.Fault.{Fault}
use Rattle.rule.specs.declared.fault.Reason.TheVariants.{RunNotOver}
use Rattle.rule.specs.declared.pair.AdmittedPair.{AdmittedPair}
use Rattle.frame.specs.Results.{result_frame}
use Rattle.frame.specs.Writing.{Writes}
use Rattle.frame.specs.declared.reduction.Reduction.{Reduction}
use Rattle.engine.specs.Meaning.{count_of}
use Rattle.unit.specs.Answers.{refusal, WritesIfRoom, CollectsFrom, CollectAnswer}
use Rattle.reduction.specs.Followers.{Tables, first_tables, next_tables}
use Rattle.reduction.specs.Results.{Along, ReadsOut}
use Rattle.unit.specs.Standing.{Contents, standing_at, standing_of, Stands, Placed}
use Rattle.unit.proofs.Places.{stands_in}
use Rattle.unit.proofs.Works.{left_of, left_some}

-- a buffer keeps its length, so that what was written had room in it
pub in_room : (frame before after : List ℕ) (r : Result ℕ Fault) → length after ≡ length before → Writes frame before r after → WritesIfRoom frame before r after
in_room frame before after (Ok m) e w = (omega (arith, e, ap length w.1 ∙ length-append frame (drop (length frame) before)), w)
in_room frame before after (Err f) e w = w

-- what collect does with a result, or without one
abbrev pub Written : Option Reduction → List ℕ → Result ℕ Fault → List ℕ → Type 0
Written (Some n) before r after = WritesIfRoom (result_frame n) before r after
Written None before r after = (r ≡ refusal RunNotOver) × (after ≡ before)

collects_from : (p : AdmittedPair) (k : ℕ) (o : Option Reduction) (before after : List ℕ) (r : Result ℕ Fault) → Running whole (start_of p) k → ReadsOut p k o → Written o before r after → CollectsFrom p k before r after
collects_from p k (Some n) before after r running (over, result, right) w =
    let need : Need whole (start_of p) k = record { over = over; before = running } in
    record { left = 0; need = subst (Need whole (start_of p)) (omega arith) need; answer = (n, result, right, w) }
collects_from p k None before after r running z w = by (left_of p k running).0 (left_of p k running).1
  where
    by : (left : ℕ) → Need whole (start_of p) (k + left) → CollectsFrom p k before r after
    by zero n = absurd (omega (arith, left_some p k 0 n z))
    by (suc left) n = record { left = suc left; need = n; answer = w }

pub collects : (c : Contents Tables) (p : AdmittedPair) (o : Option Reduction) (before after : List ℕ) (r : Result ℕ Fault) → c.pair ≡ Some p → Placed first_tables next_tables c.pair c.engine c.table → ((k : ℕ) → Along first_tables next_tables p k c.engine c.table → ReadsOut p k o) → Written o before r after → CollectAnswer (standing_of c) before r after
collects c p o before after r some placed reads written =
    let k = count_of c.engine in
    let there = sym (ap (λ o. standing_at o k) some) in
    let a = (subst (λ s. Stands first_tables next_tables s c) (sym there) (stands_in c placed)).along in
    subst (λ s. CollectAnswer s before r after) there (collects_from p k o before after r a.running (reads k a) written)
