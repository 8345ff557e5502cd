use Rattle.std.proofs.Common.{sym, ◌∙◌, subst, true≢false, lit<}
use Rattle.std.proofs.lemmas.Str.Pattern.{starts_char}
use Rattle.script.specs.Numbers.{NumberOf}
use Rattle.script.proofs.Numerals.{number_from_parse}
use Rattle.script.proofs.argument.number.Goals as goal

pub returns : goal.returns
returns c =
    let plus = starts_char 43 c.args.word.now _ c.starts_with.ensures.cases (lit< tt) (lit< tt) in
    subst (NumberOf c.args.word.now) (sym c.ok.ensures.value)
    (number_from_parse c.args.word.now c.parse.result c.parse.ensures.value.0 (λ e. true≢false (sym (plus.1 e) ∙ c.if-starts_with.false)))
