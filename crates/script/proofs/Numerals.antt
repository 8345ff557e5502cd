-- What `parse` reads of a word with no sign is the number of the word.
use Rattle.std.proofs.Common.{◌≡◌, ℕ, true, List, get_or, Ok, Err, Result, rules}
use Rattle.std.specs.Result.{OkIff, result_ok}
use Rattle.std.specs.Str.Parse.{ParsesUnsigned}
use Rattle.std.specs.Str.{all_ascii_digits}
use Rattle.std.proofs.lemmas.Str.Parse.{IsNumeralModel, numerals_by_fold, parse_plain}
use Rattle.script.specs.Numbers.{read_on, decimal_value, IsNumber, NumberOf}

own : IsNumeralModel (λ ds. all_ascii_digits ds ≡ true) (read_on 0)
own = numerals_by_fold _ (search rules) read_on (search rules)

number_from_converted : {E : Type 0} (word : List ℕ) (r : Result ℕ E) → OkIff r (IsNumber word) (decimal_value word) → NumberOf word (result_ok r)
number_from_converted word (Ok n) h = h
number_from_converted word (Err e) h = h

pub number_from_parse : {E : Type 0} (word : List ℕ) (r : Result ℕ E) → ParsesUnsigned 64 10 word r → (get_or word 0 0 ≡ 43 → ⊥) → NumberOf word (result_ok r)
number_from_parse word r h plain = number_from_converted word r (parse_plain own 64 word r h plain)
