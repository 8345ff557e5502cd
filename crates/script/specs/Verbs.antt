-- How the words of calls are spelt.
use Rattle.std.specs.Prelude.{◌≡◌, ℕ, List, Ok, Err, codes, Result, ◌≢◌}
use Rattle.std.specs.Borrow.{Bor}
use Rattle.script.specs.declared.fault.LineFault.{LineFault}
use Rattle.script.specs.declared.fault.LineFault.TheVariants.{NotACall}
use Rattle.script.specs.declared.verb.Verb.{Verb}
use Rattle.script.specs.declared.verb.Verb.TheVariants.{Load, Stint, Work, Collect, Clear}

-- The word of each call.
abbrev pub spelling : Verb → List ℕ
spelling Load = codes "load"
spelling Stint = codes "stint"
spelling Work = codes "work"
spelling Collect = codes "collect"
spelling Clear = codes "clear"

-- The call that a word names is the one that is spelt so, and only a word that spells no call names none; the refusal shows the word.
abbrev pub Names : Bor (List ℕ) → Result Verb LineFault → Type 0
Names word (Ok v) = word.now ≡ spelling v
Names word (Err fault) = (fault ≡ NotACall word) × ((v : Verb) → word.now ≢ spelling v)
