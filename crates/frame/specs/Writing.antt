-- What writing a frame into a buffer does.
use Rattle.std.specs.Prelude.{◌≡◌, ℕ, ◌<◌, List, ◌++◌, length, drop, Ok, Err, Result}
use Rattle.rule.specs.Refusal.{fault}
use Rattle.rule.specs.declared.fault.Fault.{Fault}
use Rattle.rule.specs.declared.fault.Layer.TheVariants.{Unit}
use Rattle.rule.specs.declared.fault.Reason.TheVariants.{BufferTooShort}

-- The frame goes to the front of the buffer and its rest stays; a buffer that is too short is refused and left as it was.
abbrev pub Writes : List ℕ → List ℕ → Result ℕ Fault → List ℕ → Type 0
Writes frame before (Ok m) after = (m ≡ length frame) × (after ≡ frame ++ drop (length frame) before)
Writes frame before (Err f) after = (length before < length frame) × (f ≡ fault BufferTooShort Unit 0) × (after ≡ before)
