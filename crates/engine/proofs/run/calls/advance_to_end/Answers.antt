use Rattle.std.proofs.Common.{is_some, sym, refl, ap, ◌∙◌, arith, length-append, w64, SFits, rules}
use Rattle.std.proofs.lemmas.Int.{to_z-of_z}
use Rattle.std.proofs.lemmas.Option.{same_Some}
use Rattle.engine.proofs.Runs.{underway_start, underway_more, underway_room, scaled_there, finished}
use Rattle.engine.proofs.run.calls.advance_to_end.Goals as goal

pub loop-command-init : goal.loop-command-init
loop-command-init g c = search (rules, underway_start)

pub push-requires : goal.push-requires
push-requires g c = underway_room _ _ c.loop-command.invariant c.in-Ok.ensures

pub loop-command-smaller : goal.loop-command-smaller
loop-command-smaller g c = grind (arith, underway_room, length-append)

pub loop-command-preserved : goal.loop-command-preserved
loop-command-preserved g c = underway_more _ _ c.loop-command.invariant c.in-Ok.ensures c.push.ensures

pub unwrap-gcd-requires : goal.unwrap-gcd-requires
unwrap-gcd-requires g c =
    let f : SFits w64 c.a.result = search rules in
    ap is_some (c.scaled.ensures ∙ scaled_there _ _ c.loop-command.invariant c.in_default.ensures (to_z-of_z w64 c.a.result f ∙ c.a.ensures) c.twos-twos.ensures)

pub returns : goal.returns
returns g c =
    let f : SFits w64 c.a.result = search rules in
    let x = to_z-of_z w64 c.a.result f ∙ c.a.ensures in
    finished _ c.loop-command.invariant c.in_default.ensures refl x c.twos-twos.ensures
    (same_Some _ _ (sym c.unwrap-gcd.ensures ∙ c.scaled.ensures ∙ scaled_there _ _ c.loop-command.invariant c.in_default.ensures x c.twos-twos.ensures))
