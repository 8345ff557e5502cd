use Rattle.std.proofs.Common.{◌≡◌, ◌∙◌, rules, w64, SFits, to_z, of_z}
use Rattle.std.proofs.lemmas.Int.{to_z-of_z}
use Rattle.rule.proofs.Reached.{reached_start}
use Rattle.cell_engine.proofs.bitwise.Held.start.Goals as goal

pub invariant_of-result : goal.invariant_of-result
invariant_of-result c =
    let p = c.args.pair in
    let f : SFits w64 c.a.result = search rules in
    let g : SFits w64 c.b.result = search rules in
    let a : to_z w64 (of_z w64 c.a.result) ≡ p.a = to_z-of_z w64 c.a.result f ∙ c.a.ensures in
    let b : to_z w64 (of_z w64 c.b.result) ≡ p.b = to_z-of_z w64 c.b.result g ∙ c.b.ensures in
    record {
      low = rw c.order.ensures c.requires;
      reached = rw (c.order.ensures, a, b) (∣ reached_start p.order.value p.a p.b p.admitted ∣₁);
    }
