use Rattle.std.proofs.Common.{◌≡◌, [], ◌∷◌, ◌++◌, vec_items, None, Some, sym, ◌∙◌, arith, rules}
use Rattle.frame.proofs.HexDigits.{reading_no_digit, reading_more, reading_all, reading_odd}
use Rattle.frame.proofs.hex.bytes_of.Goals as goal
use Rattle.frame.proofs.hex.bytes_of.Goals.{in_default-via-then-pair-lt2, in_default-via-else-pair-lt2+else-pair-lt3}

pub returns-in_default : goal.returns-in_default
returns-in_default c =
    let size = c.loop-pair.invariant.0 in
    let step = c.in-Some.ensures.steps in
    elim c.in_default.branch [
      | in_default-via-then-pair-lt2 w ↦ reading_odd _ _ _ (grind arith) c.loop-pair.invariant.1
      | in_default-via-else-pair-lt2+else-pair-lt3 w ↦ absurd (grind arith)
    ]

pub returns-in_err-ok_or : goal.returns-in_err-ok_or
returns-in_err-ok_or c =
    let none : c.byte.result ≡ None = search rules in
    let wrong = reading_no_digit _ _ _ c.in-Some.pair.now _ c.loop-pair.invariant.1 c.in-Some.ensures.steps.1.0 (omega arith) (sym c.byte.ensures ∙ none) in
    search rules

pub loop-pair-preserved : goal.loop-pair-preserved
loop-pair-preserved c =
    let pushed : vec_items c.push.new.self ≡ vec_items c.loop-pair.bytes ++ c.in_ok-ok_or.field-0 ∷ [] = search rules in
    let found : c.byte.result ≡ Some c.in_ok-ok_or.field-0 = search rules in
    let read = reading_more _ _ _ c.in-Some.pair.now _ _ c.loop-pair.invariant.1 c.in-Some.ensures.steps.1.0 (omega arith) (sym c.byte.ensures ∙ found) in
    (search rules, rw pushed read)

pub returns : goal.returns
returns c = reading_all _ _ _ c.in-None.ensures.steps.1.0 c.loop-pair.invariant.1
