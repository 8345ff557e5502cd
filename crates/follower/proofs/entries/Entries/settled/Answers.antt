use Rattle.std.proofs.Common.{◌^◌, ◌∙◌, sym, rules}
use Rattle.std.proofs.lemmas.Bool.{and_parts}
use Rattle.follower.specs.Entries.{Within}
use Rattle.follower.proofs.Within.{range_within}
use Rattle.follower.proofs.entries.Entries.settled.Goals as goal

pub then-requires : goal.then-requires
then-requires c = λ t.
    let n = c.args.self.order in
    let e = sym c.fits.ensures ∙ (and_parts c.is_even-2.result c.fits.result t).1 in
    let w : Within (2 ^ 58) c.halved-halved.result = range_within n.value c.halved-halved.result n.admitted.1 e in
    search rules
