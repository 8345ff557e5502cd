use Rattle.std.proofs.Common.{ℕ, ◌<◌, get_or, refl, ◌∙◌, length-set, arith, rules}
use Rattle.frame.specs.Hex.{hex_text}
use Rattle.frame.proofs.HexDigits.{digits_more, digits_all, hex_utf8}
use Rattle.frame.proofs.hex.digits_of.Goals as goal

pub loop-i-init : goal.loop-i-init
unfolding hex_text
loop-i-init c = (refl, refl)

pub loop-i-preserved : goal.loop-i-preserved
loop-i-preserved c =
    let before = c.loop-i.invariant in (
      length-set _ _ _ ∙ length-set _ _ _ ∙ before.0,
      digits_more c.loop-i.digits c.args.bytes.now c.loop-i.i _ _ (omega (arith, before.0, c.requires, c.loop-i-test.true)) c.loop-i-test.true before.1 c.digit_byte.ensures c.digit_byte-in-loop-i.ensures,
    )

pub returns : goal.returns
returns c =
    let small : (i : ℕ) → get_or c.args.bytes.now i 0 < 256 = λ i. search rules in
    record { digits = digits_all c.loop-i.digits c.args.bytes.now c.loop-i.i c.loop-i-test.false c.loop-i.auto.i-end c.loop-i.invariant.1; text = hex_utf8 c.args.bytes.now small }
