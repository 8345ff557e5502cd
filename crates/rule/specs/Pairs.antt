-- The order of an admitted pair, and the start of its run.
use Rattle.std.specs.Prelude.{ℕ, ℤ}
use Rattle.rule.specs.Rule.{State, start}
use Rattle.rule.specs.declared.pair.AdmittedPair.{AdmittedPair}

abbrev pub order_of : AdmittedPair → ℕ
order_of p = p.order.value

abbrev pub start_of : AdmittedPair → State ℤ
start_of p = start p.a p.b
