use Rattle.std.proofs.Common.{◌≡◌, ◌+◌, ◌≤◌, ◌++◌, None, vec_items, vec_len, vec_capacity}
use Rattle.std.specs.Vec.Iter.{into_iter_items}
use Rattle.session.specs.Performs.{Performed}
use Rattle.session.proofs.perform.perform.Given as goal

abbrev pub invariant-loop-call : goal.invariant-loop-call
invariant-loop-call g l =
    let i = goal.iterator-loop-call g in
    i.can_next l.call-iterator ×
    i.is_finite l.call-iterator ×
    (l.yielded ++ into_iter_items l.call-iterator ≡ into_iter_items l.initial.call-iterator) ×
    (vec_len l.answers + i.remaining l.call-iterator ≤ vec_capacity l.answers) ×
    (l.initial.unit.pair ≡ None → Performed l.initial.unit l.yielded (vec_items l.answers) l.unit)
