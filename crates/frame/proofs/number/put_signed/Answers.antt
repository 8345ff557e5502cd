use Rattle.std.proofs.Common.{◌≡◌, suc, ◌<◌, ◌-◌, ◌++◌, length, drop, set, sym, ap, ◌∙◌, ap₂, length-set, arith, w64, SFits, rules}
use Rattle.std.specs.Int.Signed.{shr_z}
use Rattle.std.proofs.lemmas.Int.{to_z-of_z}
use Rattle.frame.specs.Numbers.{low_byte, signed_bytes}
use Rattle.frame.proofs.Numbers.{byte_more, bytes_all}
use Rattle.frame.proofs.number.put_signed.Goals as goal

pub loop-i-preserved : goal.loop-i-preserved
loop-i-preserved c =
    let xs = c.loop-i.part in
    let j = c.loop-i.i - 1 in
    let z = c.loop-i.rest in
    let e : suc j ≡ c.loop-i.i = omega arith in
    let h : j < length xs = search rules in
    let f : SFits w64 c.without_low_byte-rest.result = search rules in
    let x = c.low_byte.result in (
      length-set xs j x ∙ c.loop-i.invariant.0,
      ap (λ y. signed_bytes j y ++ drop j (set xs j x)) (to_z-of_z w64 _ f ∙ c.without_low_byte-rest.ensures ∙ ap (λ y. shr_z y 256) c.loop-i.rest-is)
          ∙ byte_more xs j x z (c.low_byte.ensures ∙ ap low_byte c.loop-i.rest-is) h
          ∙ ap₂ (λ k y. signed_bytes k y ++ drop k xs) e (sym c.loop-i.rest-is)
          ∙ c.loop-i.invariant.1,
    )

pub returns : goal.returns
returns c =
    let z = c.args.z in
    bytes_all c.loop-i.part c.args.part.now c.loop-i.i _ _ (omega arith) c.loop-i.invariant.1 ∙ ap (signed_bytes (length c.args.part.now)) (to_z-of_z w64 z c.ranges.z)
