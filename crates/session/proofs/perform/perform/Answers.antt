use Rattle.std.proofs.Common.{List, [], ◌∷◌, ◌++◌, vec_items, sym, refl, ap, ◌∙◌, append_assoc, arith, rules}
use Rattle.std.specs.Vec.Iter.{into_iter_items}
use Rattle.unit.specs.Calls.{contents}
use Rattle.unit.proofs.Places.{stands_in}
use Rattle.session.specs.declared.call.Call.{Call}
use Rattle.session.proofs.Laws.{performed_none, performed_more}
use Rattle.session.proofs.perform.perform.Goals as goal

pub loop-call-init : goal.loop-call-init
loop-call-init g c = (tt, tt, refl, search rules, λ e. performed_none _ _ e c.clear.ensures.items)

pub loop-call-preserved : goal.loop-call-preserved
loop-call-preserved g c =
    let i = c.loop-call.invariant in (
      tt,
      tt,
      append_assoc c.loop-call.yielded (c.in-Some.call ∷ []) (into_iter_items c.next.new.self) ∙ ap (λ (l : List Call). c.loop-call.yielded ++ l) (sym c.in-Some.ensures.steps.0) ∙ i.2,
      omega (arith, i.3, c.in-Some.ensures.steps.1, c.push_reserved.ensures.len, c.push_reserved.ensures.capacity),
      λ e. performed_more c.args.unit.now c.loop-call.unit c.answer.new.unit c.loop-call.yielded (vec_items c.loop-call.answers) _ c.in-Some.call c.answer.result c.push_reserved.ensures.items (i.4 e) c.answer.ensures (stands_in (contents c.answer.new.unit) c.answer.new.unit.placed),
    )
