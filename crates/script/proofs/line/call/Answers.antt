use Rattle.std.proofs.Common.{sym, refl, subst}
use Rattle.session.specs.declared.call.Call.TheVariants.{Load, Collect}
use Rattle.script.specs.Arguments.{Makes, held}
use Rattle.script.proofs.line.call.Goals as goal

pub returns-in_ok-frame-in-Load : goal.returns-in_ok-frame-in-Load
returns-in_ok-frame-in-Load c =
    let frame = c.in_ok-frame-in-Load.field-0 in
    subst (λ verb. Makes verb (held c.args.arguments) (Load frame)) (sym c.in-Load.is) (frame, refl, c.in_ok-frame-in-Load.ensures)

pub returns-in_ok-buffer-in-Collect : goal.returns-in_ok-buffer-in-Collect
returns-in_ok-buffer-in-Collect c =
    let buffer = c.in_ok-buffer-in-Collect.field-0 in
    let length = c.in_ok-buffer_length-in-Collect.ensures in
    subst (λ verb. Makes verb (held c.args.arguments) (Collect buffer)) (sym c.in-Collect.is)
    (buffer, c.in_ok-buffer_length-in-Collect.field-0, refl, length.0, length.1, c.in_ok-buffer-in-Collect.ensures)
