use Rattle.std.proofs.Common.{◌≡◌, ◌*◌, ◌++◌, length, take, sym, ap, ◌∙◌, subst, length-take-le, arith, rules}
use Rattle.std.proofs.Output.{has_written_append, has_written_of_eq}
use Rattle.std.specs.Str.{IsUtf8}
use Rattle.frame.specs.Hex.{hex_text}
use Rattle.frame.proofs.HexDigits.{part_more, part_last}
use Rattle.frame.proofs.hex.HexDisplay.fmt.Goals as goal

pub slice_bounds-digits-end : goal.slice_bounds-digits-end
slice_bounds-digits-end g c =
    let room : length c.digits_of-digits.result ≡ 64 = search rules in
    omega (arith, room, c.in-Some.ensures.steps.1.1, c.loop-part.invariant.0)

pub slice_bounds-from_utf8-end : goal.slice_bounds-from_utf8-end
slice_bounds-from_utf8-end g c =
    let room : length c.digits_of-digits.result ≡ 64 = search rules in
    sym (length-take-le (2 * length c.in-Some.part.now) c.digits_of-digits.result (omega (arith, room, c.in-Some.ensures.steps.1.1, c.loop-part.invariant.0)))

pub unwrap-requires : goal.unwrap-requires
unwrap-requires g c =
    let text = subst IsUtf8 (sym c.digits_of-digits.ensures.digits) c.digits_of-digits.ensures.text in
    search rules

pub loop-part-preserved : goal.loop-part-preserved
loop-part-preserved g c =
    let step = c.in-Some.ensures.steps in
    let part = c.in-Some.part.now in
    let text : c.unwrap.result.now ≡ take (2 * length part) c.digits_of-digits.result = search rules in (
      step.0 ∙ c.loop-part.invariant.0,
      λ p.
          let now = c.loop-part.invariant.1 p in
          let more = has_written_of_eq _ _ _ _ _ (text ∙ c.digits_of-digits.ensures.digits) (c.write_str.ensures.writes now.1.plain (search rules)) in
          (now.0 ++ hex_text part, has_written_append _ _ _ _ _ _ now.1 more, part_more _ _ _ now.0 (ap (λ l. now.0 ++ hex_text l) (sym step.1.0) ∙ now.2)),
    )

pub returns-clause-writes : goal.returns-clause-writes
returns-clause-writes g c =
    λ p _.
    let now = c.loop-part.invariant.1 p in
    has_written_of_eq _ _ _ _ _ (part_last _ _ _ c.in-None.ensures.steps.1.0 now.2) now.1
