use Rattle.std.proofs.Common.{◌≡◌, None, refl, rules}
use Rattle.unit.proofs.Loads.{loads, placed_first}
use Rattle.unit.proofs.unit.Unit.load.Goals as goal

pub returns : goal.returns
returns g c =
    let none : c.args.self.now.pair ≡ None = search rules in
    let b = c.in_ok-begin.ensures in
    loads c.args.self.now _ c.args.frame.now c.in_ok-pair.pair none refl refl c.in_ok-pair.ensures.unique b.0 b.1 c.begin-2.ensures

pub invariant_of-self-2 : goal.invariant_of-self-2
invariant_of-self-2 g c =
    let f = g.F.Follower in
    record { ranged = c.args.self.now.ranged; placed = placed_first f.first f.turns c.in_ok-pair.pair _ _ c.in_ok-begin.ensures.1 c.begin-2.ensures }
