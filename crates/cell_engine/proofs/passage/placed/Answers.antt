use Rattle.std.proofs.Common.{arith, pow_mono, ◌^◌, ◌≤◌}
use Rattle.std.proofs.lemmas.Nat.{one_shl}
use Rattle.std.proofs.lemmas.Int.{ints}
use Rattle.cell_engine.proofs.passage.placed.Goals as goal

pub returns-then-bit : goal.returns-then-bit
returns-then-bit c =
    let w : 2 ^ c.args.place ≤ 2 ^ 48 = pow_mono c.requires in
    rw (one_shl c.args.place 64 (omega (arith, c.requires)), c.if-bit.true) (omega (arith, ints, w))
