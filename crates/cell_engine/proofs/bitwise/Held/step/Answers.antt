use Rattle.std.proofs.Common.{◌∙◌, ap, sym, arith, rules}
use Rattle.std.proofs.lemmas.Option.{same_Some}
use Rattle.cell_engine.specs.CellMeaning.{state_of}
use Rattle.cell_engine.specs.Passing.{sent, command_in}
use Rattle.cell_engine.proofs.Steps.{passage_is, arrived, command_told, narrow_there, reached_more}
use Rattle.cell_engine.proofs.bitwise.Held.step.Goals as goal

pub overflow_add-next : goal.overflow_add-next
overflow_add-next c =
    let h = c.args.self in
    omega (arith, (narrow_there h.order.value (state_of h) h.reached).count, h.low)

pub invariant_of-next : goal.invariant_of-next
invariant_of-next c =
    let h = c.args.self in
    let s = state_of h in
    let n = h.order.value in
    let p = c.sent-passage.ensures in
    let e = c.send-first.ensures in
    let t = arrived n s h.low h.reached c.requires (passage_is s p.cell p.a p.b) e.given e.passage c.value.ensures c.read-a.ensures (search rules) (search rules) (search rules) in
    record { low = h.low; reached = rw t (reached_more n s c.requires h.reached) }

pub returns-clause-command : goal.returns-clause-command
returns-clause-command c =
    let s = state_of c.args.self in
    let p = c.sent-passage.ensures in
    let q = passage_is s p.cell p.a p.b in
    same_Some _ _ (sym c.unwrap-command.ensures ∙ c.command.ensures ∙ ap (λ p. command_in p.cell) (c.send-first.ensures.passage ∙ ap sent q) ∙ command_told s)

pub returns-clause-state : goal.returns-clause-state
returns-clause-state c =
    let h = c.args.self in
    let s = state_of h in
    let p = c.sent-passage.ensures in
    let e = c.send-first.ensures in
    arrived h.order.value s h.low h.reached c.requires (passage_is s p.cell p.a p.b) e.given e.passage c.value.ensures c.read-a.ensures (search rules) (search rules) (search rules)
