-- A pair that a unit works on to its end.
use Rattle.std.proofs.Common.{◌≡◌, ℕ, zero, suc, ◌+◌, ◌-◌, ◌<◌, ◌≤◌, true, false, ◌⊎◌, List, Some, None, Ok, Option, Result, sym, refl, ap, ◌∙◌, subst, inl, inr, arith}
use Rattle.std.proofs.lemmas.Bool.{cases_Bool, leb-true, leb-false}
use Rattle.rule.specs.Pairs.{order_of, start_of}
use Rattle.rule.specs.Rule.{after, Need}
use Rattle.rule.specs.Whole.{is_zero, whole}
use Rattle.rule.specs.declared.fault.Fault.{Fault}
use Rattle.rule.specs.declared.pair.AdmittedPair.{AdmittedPair}
use Rattle.rule.proofs.Fuel.{need_unique}
use Rattle.rule.proofs.Whole.{zero_yes, need_bounded}
use Rattle.engine.specs.declared.engine.Engine as Engine
use Rattle.follower.specs.declared.follower.Follower as Follower
use Rattle.frame.specs.Frames.{frame_of}
use Rattle.reduction.specs.Results.{state_at}
use Rattle.unit.specs.Answers.{LoadAnswer, WorksOn, WorkAnswer, worked_to, CollectsLeft, CollectsFrom, CollectAnswer}
use Rattle.unit.specs.Calls.{place, Loads, Works, Collects, Clears}
use Rattle.unit.specs.Standing.{Standing, standing_at, empty, holds}
use Rattle.unit.specs.declared.unit.Unit.{Unit as AnyUnit}
use Rattle.unit.specs.declared.unit.Worked.{Worked}
use Rattle.unit.proofs.Works.{left_some}
use Rattle.session.specs.Reduces.{FrameRefused, FrameReduced, ReducesBy, ReducesFrame}
use Rattle.session.proofs.Laws.{worked_is}

-- how many commands into its run a unit stands
abbrev pub steps : Standing → ℕ
steps empty = 0
steps (holds p k) = k

module _ {E F : Type 0} {e : Engine.Ghosts E} {f : Follower.Ghosts F} where
  -- the unit holds the pair of this frame, and something of its run is left
  pub record Pending (frame : List ℕ) (n : ℕ) (u : AnyUnit E F e f) : Type 0 where
    pub pair : AdmittedPair
    pub of_pair : frame ≡ frame_of pair
    pub order : order_of pair ≤ e.largest
    pub done : ℕ
    pub there : place u ≡ holds pair done
    pub going : is_zero (state_at pair done).b ≡ false
    pub stint : u.stint ≡ n

  -- nothing of it is left
  pub record Over (frame : List ℕ) (n : ℕ) (u : AnyUnit E F e f) : Type 0 where
    pub pair : AdmittedPair
    pub of_pair : frame ≡ frame_of pair
    pub order : order_of pair ≤ e.largest
    pub need : ℕ
    pub needs : Need whole (start_of pair) need
    pub there : place u ≡ holds pair need
    pub stint : u.stint ≡ n

going_first : (p : AdmittedPair) → is_zero (state_at p 0).b ≡ false
unfolding after
going_first p = elim (cases_Bool (is_zero p.b)) [ inl z ↦ absurd (p.admitted.2 (zero_yes p.b z)) | inr z ↦ z ]

empty_there : (o : Option AdmittedPair) (k : ℕ) → o ≡ None → standing_at o k ≡ empty
empty_there o k none = ap (λ o. standing_at o k) none

none_there : (o : Option AdmittedPair) (k : ℕ) → standing_at o k ≡ empty → o ≡ None
none_there None k there = refl
none_there (Some p) k there = let z : ◌≡◌ {A = ℕ} 0 1 = cc in absurd (omega arith)

module _ {E F : Type 0} {e : Engine.Ghosts E} {f : Follower.Ghosts F} (frame : List ℕ) (u u' : AnyUnit E F e f) where
  pub pending_load : (p : AdmittedPair) → u.pair ≡ None → Loads u frame (Ok p) u' → Pending frame u'.stint u' × (u'.stint ≡ u.stint)
  pending_load p none h =
      let d = subst (λ s. LoadAnswer e.largest s frame (Ok p)) (empty_there u.pair _ none) h.0 in
      (record { pair = p; of_pair = d.0; order = d.1; done = 0; there = h.1.standing; going = going_first p; stint = refl }, h.1.stint)

  -- ---- one work with the stint as its budget
  module _ (n budget : ℕ) (whole-stint : budget ≡ u.stint) (h : Pending frame n u) where
    works_there : (r : Result Worked Fault) → Works u budget r u' → WorksOn h.pair h.done u.stint budget r
    works_there r works = subst (λ s. WorkAnswer s u.stint budget r) h.there works.0

    some_left : (r : Result Worked Fault) (w : WorksOn h.pair h.done u.stint budget r) → 0 < w.left
    some_left r w = left_some h.pair h.done w.left w.need h.going

    pub pending_more : (w : Worked) → w.over ≡ false → Works u budget (Ok w) u' → Pending frame n u' × (225 - steps (place u') < 225 - steps (place u))
    pending_more w over works =
        let p = h.pair in
        let d = works_there (Ok w) works in
        let did = worked_is d.left u.stint budget w d.answer in
        let short : h.done + w.done < h.done + d.left = omega (arith, did.0, leb-false d.left budget (sym did.1 ∙ over)) in
        let m = need_bounded (order_of p) p.a p.b p.admitted.0 p.admitted.1 in
        let same = need_unique whole (start_of p) _ _ d.need m.1 in
        let there = works.1.standing ∙ ap (λ s. worked_to s (Ok w)) h.there in
        let before : steps (place u) ≡ h.done = ap steps h.there in
        let after : steps (place u') ≡ h.done + w.done = ap steps there in
        let ranged = u.ranged.0 in (
          record { pair = p; of_pair = h.of_pair; order = h.order; done = h.done + w.done; there = there; going = d.need.before (h.done + w.done) short; stint = works.1.stint ∙ h.stint },
          omega (arith, short, same, m.2, before, after, did.0, leb-false d.left budget (sym did.1 ∙ over), p.order.admitted.1),
        )

    pub over_then : (w : Worked) → w.over ≡ true → Works u budget (Ok w) u' → Over frame n u'
    over_then w over works =
        let d = works_there (Ok w) works in
        let did = worked_is d.left u.stint budget w d.answer in
        let all : h.done + w.done ≡ h.done + d.left = omega (arith, did.0, leb-true d.left budget (sym did.1 ∙ over)) in
        record {
          pair = h.pair;
          of_pair = h.of_pair;
          order = h.order;
          need = h.done + w.done;
          needs = subst (Need whole (start_of h.pair)) (sym all) d.need;
          there = works.1.standing ∙ ap (λ s. worked_to s (Ok w)) h.there;
          stint = works.1.stint ∙ h.stint;
        }

-- ---- the end
collected : (p : AdmittedPair) (need left : ℕ) (before after : List ℕ) (r : Result ℕ Fault) → need + left ≡ need → CollectsLeft left p need before r after → CollectsLeft 0 p need before r after
collected p need zero before after r e h = h
collected p need (suc left) before after r e h = absurd (omega arith)

module _ {E F : Type 0} {e : Engine.Ghosts E} {f : Follower.Ghosts F} (u u' : AnyUnit E F e f) (frame before after : List ℕ) (r : Result ℕ Fault) where
  pub frame_reduced : (n : ℕ) → Over frame n u → Collects u before r after → FrameReduced e.largest frame before r after
  frame_reduced n o h =
      let p = o.pair in
      let w : CollectsFrom p o.need before r after = subst (λ s. CollectAnswer s before r after) o.there h in
      let got = collected p o.need w.left before after r (need_unique whole (start_of p) _ _ w.need o.needs) w.answer in
      let m = need_bounded (order_of p) p.a p.b p.admitted.0 p.admitted.1 in
      record {
        pair = p;
        of_pair = o.of_pair;
        order = o.order;
        need = o.need;
        needs = o.needs;
        bound = omega (arith, m.2, need_unique whole (start_of p) _ _ m.1 o.needs);
        result = got.0;
        of_result = got.1;
        right = got.2;
        writes = got.3;
      }

  -- ---- all of it, on an empty unit
  reduces : u.pair ≡ None → u'.pair ≡ None → u'.stint ≡ u.stint → FrameRefused e.largest frame before r after ⊎ FrameReduced e.largest frame before r after → ReducesFrame u frame before r after u'
  reduces none pair stint h = subst (λ o. ReducesBy o u frame before r after u') (sym none) (pair, stint, h)

pub reduces_cleared : {E F : Type 0} {e : Engine.Ghosts E} {f : Follower.Ghosts F} (u v u' : AnyUnit E F e f) (frame before after : List ℕ) (r : Result ℕ Fault) (n : ℕ) (o : Unit {0}) → u.pair ≡ None → n ≡ u.stint → Over frame n v → Collects v before r after → Clears v (Ok o) u' → ReducesFrame u frame before r after u'
reduces_cleared u v u' frame before after r n o none stint over collects clears =
    reduces u u' frame before after r none (none_there u'.pair _ clears.1.standing) (clears.1.stint ∙ over.stint ∙ stint) (inr (frame_reduced v u' frame before after r n over collects))
