use Rattle.std.proofs.Common.{take, drop, sym, refl, ◌∙◌}
use Rattle.script.specs.Words.{separates}
use Rattle.script.proofs.Separated.{word_found, word_unfound}
use Rattle.script.proofs.word.first_word.Goals as goal

pub returns-in-Some : goal.returns-in-Some
returns-in-Some c =
    let end = c.in-Some.end in
    let found = c.in-Some.ensures.cases in
    let cut = word_found c.args.text.now c.trim_start_matches-text.result.now end found.0 c.trim_start_matches-text.ensures.matches (found.1 separates (λ _. refl)) in
    record {
      word = ◌∙◌ {b = take end c.trim_start_matches-text.result.now} c.split_at.ensures.front (sym cut.0);
      rest = ◌∙◌ {b = drop end c.trim_start_matches-text.result.now} c.split_at.ensures.back (sym cut.1);
    }

pub returns-in-None : goal.returns-in-None
returns-in-None c =
    let cut = word_unfound c.args.text.now c.trim_start_matches-text.result.now c.trim_start_matches-text.ensures.matches (c.in-None.ensures.cases separates (λ _. refl)) in
    record { word = sym cut.0; rest = sym cut.1 }
