use Rattle.std.proofs.Common.{◌≡◌, Some, None, refl, rules}
use Rattle.frame.specs.Results.{result_frame}
use Rattle.unit.specs.Calls.{contents}
use Rattle.unit.proofs.Collects.{collects, in_room}
use Rattle.unit.proofs.unit.calls.Unit+E+Followers.collect.Goals as goal

pub returns-in_err-reduction : goal.returns-in_err-reduction
returns-in_err-reduction g c =
    let u = c.args.self.now in
    let some : u.pair ≡ Some c.in_ok-pair.pair = search rules in
    let none : c.read_out-result.result ≡ None = search rules in
    collects (contents u) c.in_ok-pair.pair None _ _ _ some u.placed (rw none at c.read_out-result.ensures) (search rules, refl)

pub returns : goal.returns
returns g c =
    let u = c.args.self.now in
    let some : u.pair ≡ Some c.in_ok-pair.pair = search rules in
    let there : c.read_out-result.result ≡ Some c.in_ok-reduction.reduction = search rules in
    collects (contents u) c.in_ok-pair.pair (Some c.in_ok-reduction.reduction) _ _ _ some u.placed (rw there at c.read_out-result.ensures) (in_room (result_frame c.in_ok-reduction.reduction) c.args.buffer.now _ _ (search rules) c.write_result.ensures)
