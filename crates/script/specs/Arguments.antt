-- Which call a word with what stands behind it is.
use Rattle.std.specs.Prelude.{◌≡◌, ℕ, ◌≤◌, List, [], ◌∷◌, replicate, Some, None, Option, vec_items, Vec}
use Rattle.std.specs.Borrow.{Bor}
use Rattle.std.specs.declared.alloc.Global.{Global}
use Rattle.frame.specs.Hex.{good, hex_reading}
use Rattle.session.specs.declared.call.Call.{Call}
use Rattle.session.specs.declared.call.Call.TheVariants.{Load, Stint, Work, Collect, Clear}
use Rattle.script.specs.Numbers.{NumberOf}
use Rattle.script.specs.Words.{after_word, first_word}
use Rattle.script.specs.declared.fault.LineError.{LineError}
use Rattle.script.specs.declared.fault.LineError.TheVariants.{Wrong, NoMemory}
use Rattle.script.specs.declared.verb.Verb.{Verb}
use Rattle.script.specs.declared.verb.Verb.TheVariants.{Load as ToLoad, Stint as ToStint, Work as ToWork, Collect as ToCollect, Clear as ToClear}

-- The words behind the word of a call: none, one, or more.
pub data Behind : Type 0 where
  none : Behind
  one : List ℕ → Behind
  more : Behind

-- What the code holds of them: the first two.
abbrev pub held : Option (Bor (List ℕ)) × Option (Bor (List ℕ)) → Behind
held (None, second) = none
held (Some word, None) = one word.now
held (Some word, Some next) = more

-- By the first two words, which are empty where there is none.
abbrev pub counted : List ℕ → List ℕ → Behind
counted [] second = none
counted (c ∷ cs) [] = one (c ∷ cs)
counted (c ∷ cs) (d ∷ ds) = more

-- Whether a text has no word, one, which is then known, or more.
abbrev pub behind : List ℕ → Behind
behind text = counted (first_word text) (first_word (after_word text))

-- One word, and it spells this number.
abbrev pub NumberIn : Behind → ℕ → Type 0
NumberIn none n = ⊥
NumberIn (one word) n = NumberOf word (Some n)
NumberIn more n = ⊥

-- At most one word, and its digits spell these bytes.
abbrev pub FrameIn : Behind → List ℕ → Type 0
FrameIn none bytes = hex_reading [] ≡ good bytes
FrameIn (one word) bytes = hex_reading word ≡ good bytes
FrameIn more bytes = ⊥

-- Only what is no frame is found wrong; without memory nothing is known.
abbrev pub Unframed : Behind → LineError → Type 0
Unframed words (Wrong fault) = (bytes : List ℕ) → FrameIn words bytes → ⊥
Unframed words NoMemory = Unit {0}

-- The verb with these words is this call; a collect has a buffer of at most 65536 bytes, all 0.
abbrev pub Makes : Verb → Behind → Call → Type 0
Makes ToLoad words call = (frame : Vec ℕ Global) × (call ≡ Load frame) × FrameIn words (vec_items frame)
Makes ToStint words call = (n : ℕ) × (call ≡ Stint n) × NumberIn words n
Makes ToWork words call = (n : ℕ) × (call ≡ Work n) × NumberIn words n
Makes ToCollect words call = (buffer : Vec ℕ Global) × (n : ℕ) × (call ≡ Collect buffer) × NumberIn words n × (n ≤ 65536) × (vec_items buffer ≡ replicate n 0)
Makes ToClear words call = (call ≡ Clear) × (words ≡ none)

-- Only words that make no call of the verb are found wrong; without memory nothing is known.
abbrev pub Unmade : Verb → Behind → LineError → Type 0
Unmade verb words (Wrong fault) = (call : Call) → Makes verb words call → ⊥
Unmade verb words NoMemory = Unit {0}
