use Rattle.std.proofs.Common.{ap, ◌∙◌, lit<}
use Rattle.std.proofs.lemmas.Str.Pattern.{strip_suffix_char}
use Rattle.script.proofs.Bare.{bare_stripped}
use Rattle.script.proofs.parse.without_return.Goals as goal

pub returns : goal.returns
returns c =
    ap (λ l. l.now) c.unwrap_or.ensures
    ∙ bare_stripped c.args.line c.strip_suffix.result (strip_suffix_char 13 c.args.line.now c.strip_suffix.result c.strip_suffix.ensures.cases (lit< tt))
