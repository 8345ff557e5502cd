use Rattle.std.proofs.Common.{rules, pos, FitsSigned, w16}
use Rattle.std.proofs.lemmas.Int.{wraps, wrapping_add_is}
use Rattle.cell.proofs.cell.delta_after.Goals as goal

pub returns-in-Cross : goal.returns-in-Cross
returns-in-Cross c = search (rules, wraps)

pub returns-in-Shift : goal.returns-in-Shift
returns-in-Shift c =
    let f : FitsSigned w16 c.args.delta = search rules in
    rw c.in-Shift.is (wrapping_add_is w16 c.args.delta (pos 1) f (search rules))
