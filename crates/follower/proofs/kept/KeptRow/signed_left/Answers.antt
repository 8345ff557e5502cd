use Rattle.std.proofs.Common.{arith}
use Rattle.std.proofs.lemmas.Int.{ints}
use Rattle.follower.specs.Modulo.{pows}
use Rattle.follower.proofs.kept.KeptRow.signed_left.Goals as goal

pub returns-then-entry-modulus-clause-is : goal.returns-then-entry-modulus-clause-is
returns-then-entry-modulus-clause-is c = grind (arith, ints, pows c.args.self.order.value)

pub returns-else-entry-modulus-clause-is : goal.returns-else-entry-modulus-clause-is
returns-else-entry-modulus-clause-is c = grind (arith, ints, pows c.args.self.order.value)
