use Rattle.std.proofs.Common.{◌≡◌, true, leb, sym, refl, ◌∙◌, subst, inl, inr, arith}
use Rattle.std.proofs.lemmas.Bool.{lt-leb, and_left, and_right}
use Rattle.unit.specs.Calls.{contents}
use Rattle.unit.proofs.Works.{there_is, never_refused, never_over, placed_more, Comes, comes_more, works_over, works_refused, works}
use Rattle.unit.proofs.unit.Unit.work.Goals as goal
use Rattle.unit.proofs.unit.Unit.work.Goals.{then-budget-eq0-via-then-budget-eq0, then-budget-eq0-via-else-budget-eq0+then-budget-self}

pub returns-then-is_over : goal.returns-then-is_over
returns-then-is_over g c =
    let u = c.args.self.now in
    works_over u (there_is u.pair c.if-is_none.ensures) c.args.budget c.by-then-is_over.result (sym c.if-is_over.ensures) c.by-then-is_over.ensures

pub returns-then-budget-eq0 : goal.returns-then-budget-eq0
returns-then-budget-eq0 g c =
    let u = c.args.self.now in
    works_refused u (there_is u.pair c.if-is_none.ensures) c.args.budget c.by-then-budget-eq0.result (sym c.if-is_over.ensures) c.by-then-budget-eq0.ensures
    (elim c.then-budget-eq0.branch [
      | then-budget-eq0-via-then-budget-eq0 w ↦ and_left (leb 1 c.args.budget) (leb c.args.budget u.stint) (lt-leb 1 c.args.budget (omega (arith, w.if-budget-eq0.true)))
      | then-budget-eq0-via-else-budget-eq0+then-budget-self w ↦ and_right (leb 1 c.args.budget) (leb c.args.budget u.stint) (lt-leb c.args.budget u.stint (omega (arith, w.if-budget-self.true)))
    ])

pub returns-then-is_over-2 : goal.returns-then-is_over-2
returns-then-is_over-2 g c =
    let u = c.args.self.now in
    works u c.loop-done.self c.args.budget (there_is u.pair c.if-is_none.ensures) (record { done = c.loop-done.done; over = true }) (sym c.if-is_over.ensures) c.if-budget-eq0.false c.if-budget-self.false
    c.loop-done.invariant c.if-is_over-2.ensures (omega (arith, c.loop-done-test.true)) (inl refl)

pub returns-in_err-command : goal.returns-in_err-command
returns-in_err-command g c =
    let p = there_is c.args.self.now.pair c.if-is_none.ensures in
    absurd (never_over c.loop-done.self (p.0, c.loop-done.invariant.pair ∙ p.1) c.in_err-command.field-0.0 _ (sym c.if-is_over-2.ensures) c.in_err-command.ensures)

pub invariant_of-self-in-loop-done : goal.invariant_of-self-in-loop-done
invariant_of-self-in-loop-done g c =
    let u = c.loop-done.self in
    record { ranged = u.ranged; placed = placed_more u _ _ c.in_ok-command.command c.follow.result g.met.F.Follower.follows c.in_ok-command.ensures c.follow.ensures }

pub returns-in_err-follow : goal.returns-in_err-follow
returns-in_err-follow g c =
    let p = there_is c.args.self.now.pair c.if-is_none.ensures in
    absurd (never_refused c.loop-done.self p.0 (c.loop-done.invariant.pair ∙ p.1) _ _ c.in_ok-command.command c.in_err-follow.field-0.0 g.met.F.Follower.follows c.in_ok-command.ensures c.in_err-follow.ensures)

pub loop-done-preserved : goal.loop-done-preserved
loop-done-preserved g c = comes_more (contents c.args.self.now) (contents c.loop-done.self) c.loop-done.done _ _ c.in_ok-command.command c.loop-done.invariant c.in_ok-command.ensures c.in_ok-follow.ensures.1

pub returns : goal.returns
returns g c =
    let u = c.args.self.now in
    let f = g.F.Follower in
    let spent : c.loop-done.done ≡ c.args.budget = omega (arith, c.loop-done-test.false, c.loop-done.auto.done-end) in
    let all = subst (Comes f.first f.turns (contents u) (contents c.loop-done.self)) spent c.loop-done.invariant in
    works u c.loop-done.self c.args.budget (there_is u.pair c.if-is_none.ensures) (record { done = c.args.budget; over = c.is_over-2.result }) (sym c.if-is_over.ensures) c.if-budget-eq0.false c.if-budget-self.false
    all c.is_over-2.ensures (omega arith) (inr (omega arith))
