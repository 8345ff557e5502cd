-- Lines that add in turn: one line more, and what the entries then are.
use Rattle.std.proofs.Common.{◌≡◌, ℕ, suc, ◌+◌, List, [], ◌∷◌, ◌++◌, map, length, string_bytes, Some, None, Ok, Err, Option, Result, sym, refl, ap, ◌∙◌, subst, arith}
use Rattle.std.proofs.lemmas.List.{map-append}
use Rattle.session.specs.declared.call.Call.{Call}
use Rattle.session.specs.Calls.{call_text}
use Rattle.script.specs.Scripts.{Adds, AddInTurn, NotedAs, calls_in, call_texts}
use Rattle.script.specs.declared.fault.LineError.{LineError}
use Rattle.script.specs.declared.fault.LineError.TheVariants.{NoMemory, Wrong as Unlike}
use Rattle.script.specs.declared.parse.Entry.{Entry}
use Rattle.script.specs.declared.parse.Entry.TheVariants.{Call as Answered, Wrong}

-- ---- one line more

pub adds_at : (p q : ℕ) (line : List ℕ) (calls calls' : List Call) (entries entries' : List Entry) → Adds p line calls entries calls' entries' → p ≡ q → Adds q line calls entries calls' entries'
adds_at p q line calls calls' entries entries' h e = subst (λ n. Adds n line calls entries calls' entries') e h

pub turns_more : (place : ℕ) (lines : List (List ℕ)) (line : List ℕ) (calls calls' calls'' : List Call) (entries entries' entries'' : List Entry)
    → AddInTurn place lines calls entries calls' entries' → Adds (place + length lines) line calls' entries' calls'' entries'' → AddInTurn place (lines ++ line ∷ []) calls entries calls'' entries''
turns_more place [] line calls calls' calls'' entries entries' entries'' h a = (
  calls'',
  entries'',
  subst (λ cs. Adds place line cs entries calls'' entries'') h.0
      (subst (λ es. Adds place line calls' es calls'' entries'') h.1 (adds_at (place + 0) place line calls' calls'' entries' entries'' a (omega arith))),
  (refl, refl),
)
turns_more place (l ∷ ls) line calls calls' calls'' entries entries' entries'' h a = (
  h.0,
  h.1,
  h.2,
  turns_more (suc place) ls line h.0 calls' calls'' h.1 entries' entries'' h.3
      (adds_at (place + suc (length ls)) (suc place + length ls) line calls' calls'' entries' entries'' a (omega arith)),
)

-- ---- the texts of calls

texts-append : (es fs : List Entry) → call_texts (es ++ fs) ≡ call_texts es ++ call_texts fs
texts-append [] fs = refl
texts-append (Answered text ∷ es) fs = ap (λ ts. string_bytes text ∷ ts) (texts-append es fs)
texts-append (Wrong place fault ∷ es) fs = texts-append es fs

texts_noted : (place : ℕ) (read : Result (Option Call) LineError) (entries : List Entry) → NotedAs place read entries → call_texts entries ≡ map call_text (calls_in read)
texts_noted place (Ok None) entries h = ap call_texts h
texts_noted place (Ok (Some call)) entries h = ap call_texts h.1 ∙ ap (λ t. t ∷ []) h.2
texts_noted place (Err (Unlike fault)) entries h = ap call_texts h
texts_noted place (Err NoMemory) entries h = absurd h

texts_added : (place : ℕ) (line : List ℕ) (calls calls' : List Call) (entries entries' : List Entry)
    → Adds place line calls entries calls' entries' → call_texts entries ≡ map call_text calls → call_texts entries' ≡ map call_text calls'
texts_added place line calls calls' entries entries' h so_far =
    let gives = h.gives in
    let added : call_texts h.more_entries ≡ map call_text h.more_calls = texts_noted place gives.read h.more_entries gives.noted ∙ ap (map call_text) (sym gives.called) in
    ap call_texts h.entries_are ∙ texts-append entries h.more_entries ∙ ap (λ ts. ts ++ call_texts h.more_entries) so_far
    ∙ ap (λ ts. map call_text calls ++ ts) added ∙ sym (map-append call_text calls h.more_calls) ∙ ap (map call_text) (sym h.calls_are)

pub texts_in_turn : (place : ℕ) (lines : List (List ℕ)) (calls calls' : List Call) (entries entries' : List Entry)
    → AddInTurn place lines calls entries calls' entries' → call_texts entries ≡ map call_text calls → call_texts entries' ≡ map call_text calls'
texts_in_turn place [] calls calls' entries entries' h so_far = ap call_texts h.1 ∙ so_far ∙ ap (map call_text) (sym h.0)
texts_in_turn place (l ∷ ls) calls calls'' entries entries'' h so_far =
    texts_in_turn (suc place) ls h.0 calls'' h.1 entries'' h.3 (texts_added place l calls h.0 entries h.1 h.2 so_far)
