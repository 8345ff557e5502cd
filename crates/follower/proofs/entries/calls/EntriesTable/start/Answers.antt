use Rattle.std.proofs.Common.{◌^◌, ◌≤◌, arith, pow_mono, w64, SFits, rules}
use Rattle.std.proofs.lemmas.Int.{to_z-of_z}
use Rattle.follower.proofs.entries.calls.EntriesTable.start.Goals as goal

pub invariant_of-result : goal.invariant_of-result
invariant_of-result c =
    let p = c.args.pair in
    let w : 2 ^ p.order.value ≤ 2 ^ 56 = pow_mono p.order.admitted.1 in
    let f : SFits w64 c.a.result = search rules in
    let g : SFits w64 c.b.result = search rules in
    record {
      small_pair = (simp to_z-of_z (simp c.a.ensures (omega (arith, w, p.admitted.0))), simp to_z-of_z (simp c.b.ensures (omega (arith, w, p.admitted.1))));
      small_first = (omega arith, omega arith);
      small_second = (omega arith, omega arith);
    }
