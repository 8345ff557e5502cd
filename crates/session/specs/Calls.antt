-- Calls as text, in normal form.
use Rattle.std.specs.Prelude.{ℕ, List, [], ◌∷◌, ◌++◌, length, vec_items, codes, decimal}
use Rattle.frame.specs.Hex.{hex_text}
use Rattle.session.specs.declared.call.Call.{Call}
use Rattle.session.specs.declared.call.Call.TheVariants.{Load, Stint, Work, Collect, Clear}

-- A load of no bytes has no digits to show.
abbrev pub load_text : List ℕ → List ℕ
load_text [] = codes "load"
load_text (x ∷ xs) = codes "load " ++ hex_text (x ∷ xs)

-- The word of a call, a blank, and its argument; of a buffer only its length.
abbrev pub call_text : Call → List ℕ
call_text (Load frame) = load_text (vec_items frame)
call_text (Stint most) = codes "stint " ++ decimal most
call_text (Work budget) = codes "work " ++ decimal budget
call_text (Collect buffer) = codes "collect " ++ decimal (length (vec_items buffer))
call_text Clear = codes "clear"
