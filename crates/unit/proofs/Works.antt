-- A run in pieces: its start, one command more, and what a work answers.
use Rattle.std.proofs.Common.{◌≡◌, ℕ, zero, suc, ◌+◌, ◌-◌, ◌<◌, ◌≤◌, min, Bool, true, false, ◌&&◌, leb, ◌⊎◌, ℤ, is_some, Some, None, Ok, Err, Option, Result, sym, refl, ap, ◌∙◌, subst, ap₂, inl, inr, arith}
use mathlib.Core.Logic.{∥∥₁_elim, ∥∥₁_map}
use Rattle.std.proofs.lemmas.Bool.{true≢false, both_ways, cases_Bool, le-leb, lt-leb, ne_eqb, and_from, cond-true, cond-false}
use Rattle.rule.specs.Pairs.{order_of, start_of}
use Rattle.rule.specs.Refusal.{fault}
use Rattle.rule.specs.Rule.{State, after, told, Running, Need}
use Rattle.rule.specs.Whole.{is_zero, whole}
use Rattle.rule.specs.declared.command.Command.{Command}
use Rattle.rule.specs.declared.fault.Fault.{Fault}
use Rattle.rule.specs.declared.fault.Layer.TheVariants.{Unit as UnitLayer}
use Rattle.rule.specs.declared.fault.Reason.TheVariants.{BudgetOutOfRange, RunOver}
use Rattle.rule.specs.declared.pair.AdmittedPair.{AdmittedPair}
use Rattle.rule.proofs.Fuel.{count_next, after_more, told_more, running_more, need_above, need_unique}
use Rattle.rule.proofs.Whole.{need_bounded}
use Rattle.engine.specs.Meaning.{Meaning, idle, held, is_over, count_of, Advances}
use Rattle.follower.specs.Following.{turned, Followed, Follows}
use Rattle.follower.specs.FollowingLemmas.{turned_more}
use Rattle.engine.specs.declared.engine.Engine as Engine
use Rattle.follower.specs.declared.follower.Follower as Follower
use Rattle.reduction.specs.Results.{state_at, Along}
use Rattle.unit.specs.Answers.{refusal, work_answer, WorksOn, WorkAnswer, worked_to}
use Rattle.unit.specs.Calls.{contents, place, Works}
use Rattle.unit.specs.Standing.{Contents, Standing, standing_at, empty, holds, Stands, Placed}
use Rattle.unit.specs.declared.unit.Unit.{Unit as AnyUnit}
use Rattle.unit.specs.declared.unit.Worked.{Worked}
use Rattle.unit.proofs.Places.{reached}

-- ---- what is left of a run
-- the commands left after k, none of which came after the end
pub left_of : (p : AdmittedPair) (k : ℕ) → Running whole (start_of p) k → (left : ℕ) × Need whole (start_of p) (k + left)
left_of p k r =
    let n = need_bounded (order_of p) p.a p.b p.admitted.0 p.admitted.1 in
    let e : k + (n.0 - k) ≡ n.0 = omega (arith, need_above whole (start_of p) n.0 k n.1 r) in
    (n.0 - k, subst (Need whole (start_of p)) (sym e) n.1)

-- where b is not 0, there is something left
pub left_some : (p : AdmittedPair) (k left : ℕ) → Need whole (start_of p) (k + left) → is_zero (state_at p k).b ≡ false → 0 < left
left_some p k zero n z = absurd (both_ways _ z (subst (λ (j : ℕ). is_zero (state_at p j).b ≡ true) (omega arith) n.over))
left_some p k (suc left) n z = omega arith

-- ---- engine and followers along a run
module _ {T : Type 0} (first : AdmittedPair → T) (turns : T → Command → T) where
  pub along_start : (p : AdmittedPair) (m : Meaning) (t : T) → m ≡ held (order_of p) (start_of p) → t ≡ first p → Along first turns p 0 m t
  unfolding after told turned
  along_start p m t e f = record { running = λ j l. absurd (omega arith); engine = e; table = f }

  advanced : (p : AdmittedPair) (k : ℕ) (m m' : Meaning) (t : T) (c : Command) → Along first turns p k m t → Advances m (Ok c) m' → Advances (held (order_of p) (state_at p k)) (Ok c) m'
  advanced p k m m' t c a h = subst (λ x. Advances x (Ok c) m') a.engine h

  -- the command that the engine tells is taken
  along_takes : (p : AdmittedPair) (k : ℕ) (m m' : Meaning) (t t' : T) (c : Command) (r : Fault) (accepts : T → Command → Bool) (relation : AdmittedPair → T → State ℤ → Type 0) → Follows first accepts turns relation → Along first turns p k m t → Advances m (Ok c) m' → Followed accepts turns t c (Err r) t' → ⊥
  along_takes p k m m' t t' c r accepts relation follows a h g =
      let d = advanced p k m m' t c a h in
      both_ways (accepts t c) g.0 (ap₂ accepts a.table d.1 ∙ (follows p k a.running).takes d.0)

  pub along_more : (p : AdmittedPair) (k : ℕ) (m m' : Meaning) (t t' : T) (c : Command) → Along first turns p k m t → Advances m (Ok c) m' → t' ≡ turns t c → Along first turns p (suc k) m' t'
  along_more p k m m' t t' c a h g =
      let d = advanced p k m m' t c a h in
      record {
        running = running_more whole (start_of p) k a.running d.0;
        engine = d.2 ∙ ap (held (order_of p)) (sym (after_more whole k (start_of p)));
        table = g ∙ ap₂ turns a.table d.1 ∙ sym (turned_more turns (first p) (told whole k (start_of p)) _) ∙ ap (turned turns (first p)) (sym (told_more whole k (start_of p)));
      }

-- ---- what a work answers
answer_is : (left stint budget : ℕ) (w : Worked) → 0 < left → 1 ≤ budget → budget ≤ stint → w.done ≡ min budget left → w.over ≡ leb left budget → Ok w ≡ work_answer left stint budget
answer_is left stint budget w l b s done over =
    let some = ne_eqb left 0 (λ e. omega arith) in
    let within = and_from (leb 1 budget) (leb budget stint) (le-leb 1 budget b) (le-leb budget stint s) in
    (λ i. Ok (record { done = done i; over = over i })) ∙ sym (cond-true _ _ _ within) ∙ sym (cond-false _ _ _ some)

-- the lesser of the budget and what was left is done, and the run is over where that was all
pub works_on : (p : AdmittedPair) (k stint budget : ℕ) (w : Worked) → Running whole (start_of p) k → is_zero (state_at p k).b ≡ false → Running whole (start_of p) (k + w.done) → w.over ≡ is_zero (state_at p (k + w.done)).b → w.done ≤ budget → (w.over ≡ true) ⊎ (budget ≤ w.done) → 1 ≤ budget → budget ≤ stint → WorksOn p k stint budget (Ok w)
works_on p k stint budget w r z r' over most why b s =
    let l = left_of p k r in
    let left = l.0 in
    let some = left_some p k left l.1 z in
    let within : w.done ≤ left = omega (arith, need_above whole (start_of p) (k + left) (k + w.done) l.1 r') in
    let at_end : w.over ≡ true → w.done ≡ left = λ e. omega (arith, need_unique whole (start_of p) (k + w.done) (k + left) (record { over = sym over ∙ e; before = r' }) l.1) in
    let done : w.done ≡ min budget left = elim why [ inl e ↦ omega (arith, at_end e) | inr u ↦ omega arith ] in
    let ends : w.over ≡ leb left budget = elim (cases_Bool w.over) [ inl e ↦ e ∙ sym (le-leb left budget (omega (arith, at_end e))) | inr e ↦ e ∙ sym (lt-leb left budget (short e)) ] in
    record { left = left; need = l.1; answer = answer_is left stint budget w some b s done ends }
  where
    short : w.over ≡ false → budget < (left_of p k r).0
    short e =
        let left = (left_of p k r).0 in
        let within : w.done ≤ left = omega (arith, need_above whole (start_of p) (k + left) (k + w.done) (left_of p k r).1 r') in
        let rest : k + left ≡ (k + w.done) + (left - w.done) = omega arith in
        let more = left_some p (k + w.done) (left - w.done) (subst (Need whole (start_of p)) rest (left_of p k r).1) (sym over ∙ e) in
        elim why [ inl t ↦ absurd (both_ways _ e t) | inr u ↦ omega arith ]

-- a budget that is refused
pub over_budget : (p : AdmittedPair) (k stint budget : ℕ) → Running whole (start_of p) k → is_zero (state_at p k).b ≡ false → (leb 1 budget && leb budget stint) ≡ false → WorksOn p k stint budget (refusal BudgetOutOfRange)
over_budget p k stint budget r z e =
    let l = left_of p k r in
    record { left = l.0; need = l.1; answer = sym (cond-false _ _ _ e) ∙ sym (cond-false _ _ _ (ne_eqb l.0 0 (λ n. omega (arith, left_some p k l.0 l.1 z)))) }

-- ---- work, on a unit
pub ok_err : {X Y : Type 0} {x : X} {y : Y} → ◌≡◌ {A = Result X Y} (Ok x) (Err y) → ⊥
ok_err e = let z : ◌≡◌ {A = ℕ} 0 1 = cc in omega arith

pub there_is : {X : Type 0} (o : Option X) → is_some o ≡ true → (x : X) × (o ≡ Some x)
there_is None e = absurd (true≢false (sym e))
there_is (Some x) e = (x, refl)

refused_stays : (s : Standing) (r : Fault) → worked_to s (Err r) ≡ s
refused_stays empty r = refl
refused_stays (holds p k) r = refl

-- an engine that told a command counts one more
counted : (m m' : Meaning) (c : Command) → Advances m (Ok c) m' → count_of m' ≡ suc (count_of m)
counted idle m' c h = absurd (ok_err h.0)
counted (held n s) m' c h = ap count_of h.2 ∙ count_next whole s

-- what a unit with contents c holds after so many commands
pub record Comes {T : Type 0} (first : AdmittedPair → T) (turns : T → Command → T) (c d : Contents T) (done : ℕ) : Type 0 where
  pub pair : d.pair ≡ c.pair
  pub stint : d.stint ≡ c.stint
  pub count : count_of d.engine ≡ count_of c.engine + done
  pub along : (p : AdmittedPair) (k : ℕ) → Along first turns p k c.engine c.table → Along first turns p (k + done) d.engine d.table

module _ {T : Type 0} {first : AdmittedPair → T} {turns : T → Command → T} where
  pub comes_more : (c d : Contents T) (done : ℕ) (m : Meaning) (t : T) (x : Command) → Comes first turns c d done → Advances d.engine (Ok x) m → t ≡ turns d.table x → Comes first turns c (record { pair = d.pair; stint = d.stint; engine = m; table = t }) (done + 1)
  comes_more c d done m t x h a g = record {
    pair = h.pair;
    stint = h.stint;
    count = omega (arith, counted d.engine m x a, h.count);
    along = λ p k l. subst (λ (j : ℕ). Along first turns p j m t) (omega arith) (along_more first turns p (k + done) d.engine m d.table t x (h.along p k l) a g);
  }

module _ {E F : Type 0} {e : Engine.Ghosts E} {f : Follower.Ghosts F} (u : AnyUnit E F e f) where
  -- the command that the engine tells is taken
  pub never_refused : (p : AdmittedPair) → u.pair ≡ Some p → (m : Meaning) (t : f.Table) (c : Command) (r : Fault) → Follows f.first f.accepts f.turns f.relation → Advances (e.meaning u.engine) (Ok c) m → Followed f.accepts f.turns (f.table u.followers) c (Err r) t → ⊥
  never_refused p some m t c r follows a g =
      ∥∥₁_elim (u.placed p some) (λ x y. absurd x) (λ l. along_takes f.first f.turns p (count_of (e.meaning u.engine)) (e.meaning u.engine) m (f.table u.followers) t c r f.accepts f.relation follows l a g)

  -- so what the type keeps of the unit is so after one command more
  pub placed_more : (m : Meaning) (t : f.Table) (c : Command) (r : Result (Unit {0}) Fault) → Follows f.first f.accepts f.turns f.relation → Advances (e.meaning u.engine) (Ok c) m → Followed f.accepts f.turns (f.table u.followers) c r t → Placed f.first f.turns u.pair m t
  placed_more m t c (Ok _) follows a g p some =
      let n = e.meaning u.engine in
      ∥∥₁_map (u.placed p some) (λ l. subst (λ (k : ℕ). Along f.first f.turns p k m t) (sym (counted n m c a)) (along_more f.first f.turns p (count_of n) n m (f.table u.followers) t c l a g.1))
  placed_more m t c (Err r) follows a g p some = absurd (never_refused p some m t c r follows a g)

-- of a unit that holds the pair q.0
module _ {E F : Type 0} {e : Engine.Ghosts E} {f : Follower.Ghosts F} (u : AnyUnit E F e f) (q : (p : AdmittedPair) × (u.pair ≡ Some p)) where
  -- the commands of its run that have been done
  abbrev done_of : ℕ
  done_of = count_of (e.meaning u.engine)

  place_is : place u ≡ holds q.0 done_of
  place_is = ap (λ o. standing_at o done_of) q.1

  there : Running whole (start_of q.0) done_of × (e.meaning u.engine ≡ held (order_of q.0) (state_at q.0 done_of))
  there = reached f.first f.turns q.0 done_of (e.meaning u.engine) (f.table u.followers) (u.placed q.0 q.1)

  over_there : is_over (e.meaning u.engine) ≡ is_zero (state_at q.0 done_of).b
  over_there = ap is_over there.1

  refused : (budget : ℕ) (r : Fault) → WorksOn q.0 done_of u.stint budget (Err r) → Works u budget (Err r) u
  refused budget r h = (
    subst (λ s. WorkAnswer s u.stint budget (Err r)) (sym place_is) h,
    record { standing = sym (refused_stays (place u) r); stint = refl; unmoved = λ _. refl; stands = subst (λ s. Stands f.first f.turns s (contents u)) (sym (refused_stays (place u) r)) },
  )

  pub works_over : (budget : ℕ) (r : Fault) → is_over (e.meaning u.engine) ≡ true → r ≡ fault RunOver UnitLayer 0 → Works u budget (Err r) u
  works_over budget r z i =
      let n : Need whole (start_of q.0) done_of = record { over = sym over_there ∙ z; before = there.0 } in
      refused budget r (record { left = 0; need = subst (Need whole (start_of q.0)) (omega arith) n; answer = ap Err i })

  pub works_refused : (budget : ℕ) (r : Fault) → is_over (e.meaning u.engine) ≡ false → r ≡ fault BudgetOutOfRange UnitLayer 0 → (leb 1 budget && leb budget u.stint) ≡ false → Works u budget (Err r) u
  works_refused budget r z i out = refused budget r (subst (WorksOn q.0 done_of u.stint budget) (ap Err (sym i)) (over_budget q.0 done_of u.stint budget there.0 (sym over_there ∙ z) out))

  -- an engine whose run is not over advances
  pub never_over : (r : Fault) (m : Meaning) → is_over (e.meaning u.engine) ≡ false → Advances (e.meaning u.engine) (Err r) m → ⊥
  never_over r m z a = both_ways _ (sym over_there ∙ z) (subst (λ x. Advances x (Err r) m) there.1 a).0

module _ {E F : Type 0} {e : Engine.Ghosts E} {f : Follower.Ghosts F} (u v : AnyUnit E F e f) (budget : ℕ) (q : (p : AdmittedPair) × (u.pair ≡ Some p)) where
  pub works : (w : Worked) → is_over (e.meaning u.engine) ≡ false → (budget ≡ 0 → ⊥) → budget ≤ u.stint → Comes f.first f.turns (contents u) (contents v) w.done → w.over ≡ is_over (e.meaning v.engine) → w.done ≤ budget → (w.over ≡ true) ⊎ (budget ≤ w.done) → Works u budget (Ok w) v
  works w z b s h over most why =
      let p = q.0 in
      let k = count_of (e.meaning u.engine) in
      let q' : (p : AdmittedPair) × (v.pair ≡ Some p) = (p, h.pair ∙ q.1) in
      let running = subst (Running whole (start_of p)) h.count (there v q').0 in
      let over' = over ∙ over_there v q' ∙ ap (λ (j : ℕ). is_zero (state_at p j).b) h.count in (
        subst (λ x. WorkAnswer x u.stint budget (Ok w)) (sym (place_is u q)) (works_on p k u.stint budget w (there u q).0 (sym (over_there u q) ∙ z) running over' most why (omega (arith, b)) s),
        record {
          standing = place_is v q' ∙ ap (holds p) h.count ∙ ap (λ x. worked_to x (Ok w)) (sym (place_is u q));
          stint = h.stint;
          unmoved = λ e. absurd (true≢false e);
          stands = subst (λ x. Stands f.first f.turns x (contents u) → Stands f.first f.turns (worked_to x (Ok w)) (contents v)) (sym (place_is u q)) (λ l. record { pair = q'.1; along = h.along p k l.along });
        },
      )
