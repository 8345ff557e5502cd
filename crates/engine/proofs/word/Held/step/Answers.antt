use Rattle.std.proofs.Common.{◌≡◌}
use mathlib.Core.Logic.{∥∥₁_map}
use Rattle.rule.specs.Reached.{Reached}
use Rattle.rule.specs.Rule.{next}
use Rattle.rule.specs.Whole.{whole}
use Rattle.rule.proofs.Reached.{reached_next, narrow_word}
use Rattle.engine.specs.Words.{state_of}
use Rattle.engine.proofs.word.Held.step.Goals as goal

pub returns-clause-state : goal.returns-clause-state
unfolding next
returns-clause-state c = cc

pub invariant_of-next : goal.invariant_of-next
unfolding next
invariant_of-next c =
    let h = c.args.self in
    let s = state_of h.registers in
    let e : state_of c.obeyed.result ≡ next whole s = cc in
    let r : ∥ Reached h.order.value (state_of c.obeyed.result) ∥₁ = rw e (∥∥₁_map h.reached (reached_next h.order.value s c.requires)) in
    record { reached = r; narrow = narrow_word h.order.value (state_of c.obeyed.result) h.order.admitted.1 r }
