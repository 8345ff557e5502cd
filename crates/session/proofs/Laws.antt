-- The law, from the answers of all calls.
use Rattle.std.proofs.Common.{◌≡◌, ℕ, zero, suc, ◌+◌, ◌-◌, min, Bool, true, false, cond, ◌&&◌, eqb, leb, List, [], ◌∷◌, ◌++◌, map, reverse, Some, None, Ok, Err, Option, Result, sym, refl, ap, ◌∙◌, subst, ap₂, inl, inr, arith}
use Rattle.std.proofs.lemmas.List.{map_push, reverse-append}
use Rattle.std.proofs.lemmas.Option.{none-some, same_Some}
use Rattle.std.proofs.lemmas.Bool.{cases_Bool, leb-true, leb-false, eq-eqb, ne_eqb, le-leb, cond-true}
use Rattle.std.proofs.lemmas.Option.{none-some, same_Some}
use Rattle.rule.specs.Pairs.{order_of, start_of}
use Rattle.rule.specs.Refusal.{number, fault}
use Rattle.rule.specs.Whole.{whole}
use Rattle.rule.specs.declared.fault.Fault.{Fault}
use Rattle.rule.specs.declared.fault.Layer.TheVariants.{Unit as UnitLayer}
use Rattle.rule.specs.declared.fault.Reason.TheVariants.{BudgetOutOfRange, BufferTooShort, RunNotOver, RunOver}
use Rattle.rule.specs.declared.pair.AdmittedPair.{AdmittedPair}
use Rattle.rule.proofs.Fuel.{need_unique}
use Rattle.rule.proofs.Whole.{need_bounded}
use Rattle.frame.specs.Results.{result_frame}
use Rattle.frame.specs.declared.reduction.Reduction.{Reduction}
use Rattle.frame.proofs.RoundTrips.{pair_read_back}
use Rattle.unit.specs.Answers.{refusal, load_objection, work_answer, WorkAnswer, CollectsLeft, WritesIfRoom}
use Rattle.reduction.specs.Results.{ResultOf, RightResult}
use Rattle.engine.specs.declared.engine.Engine as Engine
use Rattle.follower.specs.declared.follower.Follower as Follower
use Rattle.unit.specs.Calls.{contents, place}
use Rattle.unit.specs.Standing.{empty, Stands}
use Rattle.unit.specs.declared.unit.Unit.{Unit as AnyUnit}
use Rattle.unit.proofs.Places.{stands_there}
use Rattle.unit.proofs.Works.{ok_err}
use Rattle.unit.specs.declared.unit.Worked.{Worked}
use Rattle.session.specs.History.{Event, load, stint, work, collect, clear, call_of, answer_of, Held, sum_of, worked_more, held_in, stint_after, stint_in, standing}
use Rattle.session.specs.Performs.{Happened, Performed}
use Rattle.session.specs.declared.call.Answer.{Answer}
use Rattle.session.specs.declared.call.Call.{Call}
use Rattle.session.specs.Law.{Answered, AllAnswered, TakesAll, Counted, CollectedRight, CollectLaw, Lawful, Throughout}

ok_same : {X Y : Type 0} {x y : X} → ◌≡◌ {A = Result X Y} (Ok x) (Ok y) → x ≡ y
ok_same e = cc

err_same : {X Y : Type 0} {x y : Y} → ◌≡◌ {A = Result X Y} (Err x) (Err y) → x ≡ y
err_same e = cc

-- ---- an empty unit takes every pair
pub takes_all : (largest : ℕ) → TakesAll largest empty
takes_all largest p l (Ok q) h = refl
takes_all largest p l (Err f) h =
    let there = pair_read_back (order_of p) p.a p.b p.order.admitted p.admitted in
    absurd (none-some _ (sym (cond-true _ _ _ (le-leb (order_of p) largest l)) ∙ sym (ap (load_objection largest) there) ∙ h))

-- ---- (a): the need and the works
counted_load : (p : AdmittedPair) → Counted (record { pair = p; works = [] })
counted_load p =
    let n = need_bounded (order_of p) p.a p.b p.admitted.0 p.admitted.1 in
    record { need = n.0; needs = n.1; bound = n.2; within = omega arith; works = tt }

-- what a work that was not refused did
pub worked_is : (left most budget : ℕ) (w : Worked) → Ok w ≡ work_answer left most budget → (w.done ≡ min budget left) × (w.over ≡ leb left budget)
worked_is left most budget w e = let same = by (eqb left 0) (leb 1 budget && leb budget most) e in (ap (λ v. v.done) same, ap (λ v. v.over) same)
  where
    by : (over within : Bool) → Ok w ≡ cond over (refusal RunOver) (cond within (Ok (record { done = min budget left; over = leb left budget })) (refusal BudgetOutOfRange)) → w ≡ record { done = min budget left; over = leb left budget }
    by true within e = absurd (ok_err e)
    by false true e = ok_same e
    by false false e = absurd (ok_err e)

counted_work : (budget most : ℕ) (w : Worked) (o : Option Held) → ((q : Held) → o ≡ Some q → Counted q) → WorkAnswer (standing o) most budget (Ok w) → (q : Held) → worked_more (budget, w) o ≡ Some q → Counted q
counted_work budget most w None before a q e = absurd (none-some _ e)
counted_work budget most w (Some h) before a q e =
    let k = before h refl in
    let sum = sum_of h.works in
    let u : sum + a.left ≡ k.need = need_unique whole (start_of h.pair) _ _ a.need k.needs in
    let did = worked_is a.left most budget w a.answer in
    let over : w.over ≡ eqb (k.need - sum - w.done) 0 =
    elim (cases_Bool (leb a.left budget)) [
      | inl t ↦ did.1 ∙ t ∙ sym (eq-eqb (k.need - sum - w.done) 0 (omega (arith, u, did.0, leb-true a.left budget t)))
      | inr f ↦ did.1 ∙ f ∙ sym (ne_eqb (k.need - sum - w.done) 0 (λ z. omega (arith, z, u, did.0, leb-false a.left budget f)))
    ] in
    subst Counted (same_Some _ _ e)
    (record { need = k.need; needs = k.needs; bound = k.bound; within = omega (arith, u, did.0); works = (omega (arith, u, did.0), over, k.works) })

counted : (largest n : ℕ) (h : List Event) → AllAnswered largest n h → (o : Held) → held_in h ≡ Some o → Counted o
counted largest n [] a o e = absurd (none-some _ e)
counted largest n (load frame (Ok p) ∷ h) a o e = subst Counted (same_Some _ _ e) (counted_load p)
counted largest n (load frame (Err f) ∷ h) a o e = counted largest n h a.1 o e
counted largest n (stint most r ∷ h) a o e = counted largest n h a.1 o e
counted largest n (work budget (Ok w) ∷ h) a o e = counted_work budget (stint_in n h) w (held_in h) (counted largest n h a.1) a.0 o e
counted largest n (work budget (Err f) ∷ h) a o e = counted largest n h a.1 o e
counted largest n (collect before r after ∷ h) a o e = counted largest n h a.1 o e
counted largest n (clear (Ok _) ∷ h) a o e = absurd (none-some _ e)
counted largest n (clear (Err f) ∷ h) a o e = counted largest n h a.1 o e

-- ---- (b): a collect
collect_over : (p : AdmittedPair) (need : ℕ) (n : Reduction) (before after : List ℕ) (r : Result ℕ Fault) → ResultOf p need n → RightResult p n → WritesIfRoom (result_frame n) before r after → CollectLaw p need need before r after
collect_over p need n before after (Ok m) result right w =
    record {
      early = λ l. absurd (omega arith);
      only_early = λ e. absurd (ok_err e);
      collected = (n, result, right, result.count, w);
    }
collect_over p need n before after (Err f) result right w =
    record { early = λ l. absurd (omega arith); only_early = λ e. absurd (apart (sym w.1 ∙ err_same e)); collected = w.2 }
  where
    apart : fault BufferTooShort UnitLayer 0 ≡ fault RunNotOver UnitLayer 0 → ⊥
    apart e = let z : ◌≡◌ {A = ℕ} 9 23 = ap (λ f. number f.reason) e in omega arith

collect_left : (p : AdmittedPair) (need sum left : ℕ) (before after : List ℕ) (r : Result ℕ Fault) → sum + left ≡ need → CollectsLeft left p sum before r after → CollectLaw p need sum before r after
collect_left p need sum zero before after r e (n, result, right, w) =
    let same : need ≡ sum = omega arith in
    subst (λ (k : ℕ). CollectLaw p need k before r after) same (collect_over p need n before after r (subst (λ (k : ℕ). ResultOf p k n) (sym same) result) right w)
collect_left p need sum (suc left) before after r e (refused, kept) =
    record { early = λ _. refused; only_early = λ _. omega arith; collected = subst (λ x. CollectedRight p need sum before x after) (sym refused) kept }

lawful : (largest n : ℕ) (h : List Event) → AllAnswered largest n h → Lawful largest n h
lawful largest n h a = record {
  answered = a;
  free = λ e. subst (λ o. TakesAll largest (standing o)) (sym e) (takes_all largest);
  held = λ o e.
      let k = counted largest n h a o e in
      record {
        counted = k;
        collects = λ before r after c. collect_left o.pair k.need (sum_of o.works) c.left before after r (need_unique whole (start_of o.pair) _ _ c.need k.needs) c.answer;
      };
}

pub throughout : (largest n : ℕ) (h : List Event) → AllAnswered largest n h → Throughout largest n h
throughout largest n [] a = lawful largest n [] a
throughout largest n (e ∷ h) a = (lawful largest n (e ∷ h) a, throughout largest n h a.1)

answered_so_far : (largest n : ℕ) (h : List Event) → Throughout largest n h → AllAnswered largest n h
answered_so_far largest n [] t = tt
answered_so_far largest n (e ∷ h) t = t.0.answered

-- ---- one call more
map-reverse_more : {X : Type 0} (f : Event → X) (e : Event) (h : List Event) → map f (reverse (e ∷ h)) ≡ map f (reverse h) ++ f e ∷ []
map-reverse_more f e h = ap (map f) (reverse-append (e ∷ []) h) ∙ map_push f (reverse h) e

module _ {E F : Type 0} {e : Engine.Ghosts E} {f : Follower.Ghosts F} where
  pub performed_none : (u : AnyUnit E F e f) (answers : List Answer) → u.pair ≡ None → answers ≡ [] → Performed u [] answers u
  performed_none u answers pair none = record { history = []; of_calls = refl; of_answers = sym none; lawful = throughout e.largest u.stint [] tt; stands = pair; stint = refl }

  pub performed_more : (u v w : AnyUnit E F e f) (calls : List Call) (answers answers' : List Answer) (call : Call) (answer : Answer) → answers' ≡ answers ++ answer ∷ [] → Performed u calls answers v → Happened v call answer w → Stands f.first f.turns (place w) (contents w) → Performed u (calls ++ call ∷ []) answers' w
  performed_more u v w calls answers answers' call answer more g h stands =
      let there = stands_there f.first f.turns (standing (held_in g.history)) (contents v) g.stands in
      let answered = subst (λ s. Answered e.largest s v.stint h.event) (sym there) h.answered in
      record {
        history = h.event ∷ g.history;
        of_calls = map-reverse_more call_of h.event g.history ∙ ap₂ (λ (xs : List Call) (x : Call). xs ++ x ∷ []) g.of_calls h.of_call;
        of_answers = map-reverse_more answer_of h.event g.history ∙ ap₂ (λ (xs : List Answer) (x : Answer). xs ++ x ∷ []) g.of_answers h.of_answer ∙ sym more;
        lawful = throughout e.largest u.stint (h.event ∷ g.history) (subst (λ (n : ℕ). Answered e.largest (standing (held_in g.history)) n h.event) g.stint answered, answered_so_far e.largest u.stint g.history g.lawful);
        stands = subst (λ s. Stands f.first f.turns s (contents w)) (h.left (held_in g.history) (sym there)) stands;
        stint = h.stint ∙ ap (stint_after h.event) g.stint;
      }
