-- What one call makes of a history.
use Rattle.std.proofs.Common.{◌≡◌, ℕ, List, length, Some, None, Ok, Err, vec_items, Option, Result, Vec, sym, refl, ap, ◌∙◌, subst, arith}
use Rattle.std.proofs.lemmas.List.{with_items_is}
use Rattle.std.specs.Vec.{with_items}
use Rattle.std.specs.declared.alloc.Global.{Global}
use Rattle.rule.specs.declared.fault.Fault.{Fault}
use Rattle.rule.specs.declared.pair.AdmittedPair.{AdmittedPair}
use Rattle.unit.specs.Answers.{LoadAnswer, loaded_to, worked_to, CollectAnswer, clear_answer}
use Rattle.engine.specs.declared.engine.Engine as Engine
use Rattle.follower.specs.declared.follower.Follower as Follower
use Rattle.unit.specs.Calls.{place, Loads, Stints, Works, Collects, Clears}
use Rattle.unit.specs.Standing.{empty}
use Rattle.unit.specs.declared.unit.Unit.{Unit as AnyUnit}
use Rattle.unit.specs.declared.unit.Worked.{Worked}
use Rattle.session.specs.History.{load, stint, work, collect, clear, Held, held_after, standing}
use Rattle.session.specs.Performs.{Happened}
use Rattle.session.specs.declared.call.Answer.TheVariants.{Loaded, Stinted, Worked as WorkedAnswer, Collected, Cleared}
use Rattle.session.specs.declared.call.Call.{Call}
use Rattle.session.specs.declared.call.Call.TheVariants.{Load, Stint, Work, Collect, Clear}

-- ---- where the unit stands then
loaded_to_lem : (frame : Vec ℕ Global) (o : Option Held) (r : Result AdmittedPair Fault) → loaded_to (standing o) r ≡ standing (held_after (load frame r) o)
loaded_to_lem frame o (Ok p) = refl
loaded_to_lem frame o (Err f) = refl

worked_to_lem : (budget : ℕ) (o : Option Held) (r : Result Worked Fault) → worked_to (standing o) r ≡ standing (held_after (work budget r) o)
worked_to_lem budget None (Ok w) = refl
worked_to_lem budget None (Err f) = refl
worked_to_lem budget (Some h) (Ok w) = refl
worked_to_lem budget (Some h) (Err f) = refl

cleared_to : (o : Option Held) (r : Result (Unit {0}) Fault) → r ≡ clear_answer (standing o) → empty ≡ standing (held_after (clear r) o)
cleared_to o (Ok _) e = refl
cleared_to None (Err f) e = refl
cleared_to (Some h) (Err f) e = absurd (let z : ◌≡◌ {A = ℕ} 0 1 = cc in omega arith)

-- ---- each call
module _ {E F : Type 0} {e : Engine.Ghosts E} {f : Follower.Ghosts F} (u u' : AnyUnit E F e f) (call : Call) where
  pub load_happened : (frame : Vec ℕ Global) (bytes : List ℕ) (r : Result AdmittedPair Fault) → call ≡ Load frame → bytes ≡ vec_items frame → Loads u bytes r u' → Happened u call (Loaded r) u'
  load_happened frame bytes r i b h =
      record { event = load frame r; of_call = sym i; of_answer = refl; answered = subst (λ x. LoadAnswer e.largest (place u) x r) b h.0; left = λ o s. h.1.standing ∙ ap (λ x. loaded_to x r) s ∙ loaded_to_lem frame o r; stint = h.1.stint }

  pub stint_happened : (most : ℕ) (r : Result (Unit {0}) Fault) → call ≡ Stint most → Stints u most r u' → Happened u call (Stinted r) u'
  stint_happened most r i h =
      record { event = stint most r; of_call = sym i; of_answer = refl; answered = h.0; left = λ o s. h.1.standing ∙ s; stint = h.1.stint }

  pub work_happened : (budget : ℕ) (r : Result Worked Fault) → call ≡ Work budget → Works u budget r u' → Happened u call (WorkedAnswer r) u'
  work_happened budget r i h =
      record { event = work budget r; of_call = sym i; of_answer = refl; answered = h.0; left = λ o s. h.1.standing ∙ ap (λ x. worked_to x r) s ∙ worked_to_lem budget o r; stint = h.1.stint }

  pub clear_happened : (r : Result (Unit {0}) Fault) → call ≡ Clear → Clears u r u' → Happened u call (Cleared r) u'
  clear_happened r i h =
      record { event = clear r; of_call = sym i; of_answer = refl; answered = h.0; left = λ o s. h.1.standing ∙ cleared_to o r (h.0 ∙ ap clear_answer s); stint = h.1.stint }

pub collect_happened : {E F : Type 0} {e : Engine.Ghosts E} {f : Follower.Ghosts F} (u : AnyUnit E F e f) (call : Call) (buffer : Vec ℕ Global) (before after : List ℕ) (r : Result ℕ Fault) → call ≡ Collect buffer → before ≡ vec_items buffer → length after ≡ buffer.len → Collects u before r after → Happened u call (Collected r (with_items buffer after)) u
collect_happened u call buffer before after r i b l h =
    let filled = with_items_is buffer after l in
    record {
      event = collect buffer r (with_items buffer after);
      of_call = sym i;
      of_answer = refl;
      answered = subst (λ x. CollectAnswer (place u) x r (vec_items (with_items buffer after))) b (subst (CollectAnswer (place u) before r) (sym filled) h);
      left = λ o s. s;
      stint = refl;
    }
