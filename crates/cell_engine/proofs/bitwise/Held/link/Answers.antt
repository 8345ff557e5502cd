use Rattle.std.proofs.Common.{◌∙◌, ap, rules, w16, w64, SFits}
use Rattle.std.proofs.lemmas.Int.{to_z-of_z}
use Rattle.rule.specs.Whole.{odd}
use Rattle.cell_engine.specs.CellMeaning.{state_of}
use Rattle.cell_engine.proofs.Steps.{started}
use Rattle.cell_engine.proofs.bitwise.Held.link.Goals as goal

pub returns : goal.returns
returns c =
    let h = c.args.self in
    let a : SFits w64 h.a = search rules in
    let b : SFits w64 h.b = search rules in
    let d : SFits w16 h.delta = search rules in
    started (state_of h) (c.is_odd.ensures ∙ ap odd (to_z-of_z w64 h.a a)) (c.is_odd-2.ensures ∙ ap odd (to_z-of_z w64 h.b b)) (to_z-of_z w16 h.delta d)
