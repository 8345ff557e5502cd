-- What a line of a script is: silent, a call, or no call.
use Rattle.std.specs.Prelude.{◌≡◌, ℕ, List, [], ◌∷◌, Some, None, Ok, Err, Option, Result}
use Rattle.session.specs.declared.call.Call.{Call}
use Rattle.script.specs.Arguments.{Makes, behind}
use Rattle.script.specs.Verbs.{spelling}
use Rattle.script.specs.Words.{after_word, first_word}
use Rattle.script.specs.declared.fault.LineError.{LineError}
use Rattle.script.specs.declared.fault.LineError.TheVariants.{Wrong, NoMemory}
use Rattle.script.specs.declared.verb.Verb.{Verb}

-- The first word of a line that is blank or a comment: there is none, or it begins with '#'.
abbrev pub Silent : List ℕ → Type 0
Silent [] = Unit {0}
Silent (c ∷ cs) = c ≡ 35

-- The first word of the line is a verb, and with the words behind it the verb is this call.
abbrev pub Spells : List ℕ → Call → Type 0
Spells line call = (verb : Verb) × (first_word line ≡ spelling verb) × Makes verb (behind (after_word line)) call

-- What is read of a line: it is silent, or spells this call, or neither; without memory nothing is known of it.
abbrev pub ReadsLine : List ℕ → Result (Option Call) LineError → Type 0
ReadsLine line (Ok None) = Silent (first_word line)
ReadsLine line (Ok (Some call)) = Spells line call
ReadsLine line (Err (Wrong fault)) = (Silent (first_word line) → ⊥) × ((call : Call) → Spells line call → ⊥)
ReadsLine line (Err NoMemory) = Unit {0}
