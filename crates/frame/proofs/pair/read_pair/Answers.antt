use Rattle.std.proofs.Common.{take, drop, ap, ◌∙◌, w64, SFits, rules}
use Rattle.std.proofs.lemmas.Int.{to_z-of_z}
use Rattle.std.proofs.lemmas.List.{take_rest}
use Rattle.rule.specs.Admission.{width}
use Rattle.frame.specs.Numbers.{signed_value}
use Rattle.frame.proofs.Reading.{reads_admitted, reading_headed}
use Rattle.frame.proofs.RoundTrips.{framed}
use Rattle.frame.proofs.pair.read_pair.Goals as goal

pub returns : goal.returns
returns c =
    let s = c.args.bytes.now in
    let o = c.in_ok-order.order in
    let a = c.read_operands-a.result.0 in
    let b = c.read_operands-a.result.1 in
    let f : SFits w64 a = search rules in
    let g : SFits w64 b = search rules in
    let headed =
    reading_headed s o.value a b (search rules) (search rules) (search rules)
    (c.read_operands-a.ensures.a ∙ ap signed_value (ap (take (width o.value)) (take_rest s 5)))
    (c.read_operands-a.ensures.b ∙ ap signed_value (ap (drop (width o.value)) (take_rest s 5))) in
    let reads = reads_admitted s o _ _ c.new.result (simp to_z-of_z headed) c.new.ensures in
    record { reads = reads; unique = framed s c.new.result (λ i. (c.type_inv.bytes i).fits) reads }
