use Rattle.rule.specs.Reached.{Reached}
use Rattle.rule.proofs.Reached.{reached_start, narrow_word}
use Rattle.engine.specs.Words.{state_of}
use Rattle.engine.proofs.word.Held.start.Goals as goal

pub invariant_of-result : goal.invariant_of-result
invariant_of-result c =
    let p = c.args.pair in
    let o = c.order.result in
    let r : ∥ Reached o.value (state_of c.start.result) ∥₁ = rw (c.order.ensures, c.start.ensures) (∣ reached_start p.order.value p.a p.b p.admitted ∣₁) in
    record { reached = r; narrow = narrow_word o.value (state_of c.start.result) o.admitted.1 r }
