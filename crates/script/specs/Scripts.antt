-- What the lines of a script give: calls, and an entry for each of them and for each line that is no call.
use Rattle.std.specs.Prelude.{◌≡◌, ℕ, suc, cond, List, [], ◌∷◌, ◌++◌, string_bytes, String, Some, None, Ok, Err, Option, Result, ◌==◌}
use Rattle.std.specs.Str.Iter.{LacksByte}
use Rattle.std.specs.List.{join_with_byte, AllByRecursion}
use Rattle.std.specs.declared.alloc.Global.{Global}
use Rattle.session.specs.declared.call.Call.{Call}
use Rattle.session.specs.Calls.{call_text}
use Rattle.script.specs.Lines.{ReadsLine}
use Rattle.script.specs.declared.fault.LineError.{LineError}
use Rattle.script.specs.declared.fault.LineError.TheVariants.{NoMemory, Wrong as Unlike}
use Rattle.script.specs.declared.parse.Entry.{Entry}
use Rattle.script.specs.declared.parse.Entry.TheVariants.{Call as Answered, Wrong}

-- A line without the carriage return that may end it.
abbrev pub bare : List ℕ → List ℕ
bare [] = []
bare (c ∷ []) = cond (c == 13) [] (c ∷ [])
bare (c ∷ d ∷ cs) = c ∷ bare (d ∷ cs)

-- The calls of what was read of a line: one or none.
abbrev pub calls_in : Result (Option Call) LineError → List Call
calls_in (Ok None) = []
calls_in (Ok (Some call)) = call ∷ []
calls_in (Err e) = []

-- The entries for what was read of the line with this number; there is no script without memory.
abbrev pub NotedAs : ℕ → Result (Option Call) LineError → List Entry → Type 0
NotedAs place (Ok None) entries = entries ≡ []
NotedAs place (Ok (Some call)) entries = (text : String Global) × (entries ≡ Answered text ∷ []) × (string_bytes text ≡ call_text call)
NotedAs place (Err (Unlike fault)) entries = entries ≡ Wrong place fault ∷ []
NotedAs place (Err NoMemory) entries = ⊥

-- The line with this number gives these calls and entries.
pub record Gives (place : ℕ) (line : List ℕ) (calls : List Call) (entries : List Entry) : Type 0 where
  pub read : Result (Option Call) LineError
  pub reads : ReadsLine (bare line) read
  pub called : calls ≡ calls_in read
  pub noted : NotedAs place read entries

-- What a line adds to the calls and the entries so far.
pub record Adds (place : ℕ) (line : List ℕ) (calls : List Call) (entries : List Entry) (calls' : List Call) (entries' : List Entry) : Type 0 where
  pub more_calls : List Call
  pub more_entries : List Entry
  pub gives : Gives place line more_calls more_entries
  pub calls_are : calls' ≡ calls ++ more_calls
  pub entries_are : entries' ≡ entries ++ more_entries

-- These lines, from the one with this number on, add in turn to the calls and the entries so far.
abbrev pub AddInTurn : ℕ → List (List ℕ) → List Call → List Entry → List Call → List Entry → Type 0
AddInTurn place [] calls entries calls' entries' = (calls' ≡ calls) × (entries' ≡ entries)
AddInTurn place (line ∷ lines) calls entries calls'' entries'' =
    (calls' : List Call) × (entries' : List Entry) × Adds place line calls entries calls' entries' × AddInTurn (suc place) lines calls' entries' calls'' entries''

-- The text is its lines with line feeds between them, and the lines, numbered from 1, give these calls and entries.
pub record ScriptOf (text : List ℕ) (calls : List Call) (entries : List Entry) : Type 0 where
  pub lines : List (List ℕ)
  pub whole : text ≡ join_with_byte 10 lines
  pub apart : AllByRecursion (LacksByte 10) lines
  pub added : AddInTurn 1 lines [] [] calls entries

-- The texts of the entries that are calls, in their order.
abbrev pub call_texts : List Entry → List (List ℕ)
call_texts [] = []
call_texts (Answered text ∷ entries) = string_bytes text ∷ call_texts entries
call_texts (Wrong place fault ∷ entries) = call_texts entries
