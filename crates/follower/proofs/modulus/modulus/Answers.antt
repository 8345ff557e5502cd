use Rattle.std.proofs.Common.{◌+◌, arith, pow_mono, rules}
use Rattle.follower.proofs.modulus.modulus.Goals as goal

pub returns-clause-fits : goal.returns-clause-fits
returns-clause-fits c = let l = pow_mono {i = c.args.order.value + 2} {j = 58} (omega arith) in search rules
