-- What each kind of line adds to a script.
use Rattle.std.proofs.Common.{◌≡◌, ℕ, List, [], ◌∷◌, ◌++◌, string_bytes, String, Some, None, Ok, Err, Option, Result, sym, refl, subst, append-nil}
use Rattle.std.specs.declared.alloc.Global.{Global}
use Rattle.session.specs.declared.call.Call.{Call}
use Rattle.session.specs.Calls.{call_text}
use Rattle.script.specs.Lines.{ReadsLine}
use Rattle.script.specs.Scripts.{Adds, bare}
use Rattle.script.specs.declared.fault.LineFault.{LineFault}
use Rattle.script.specs.declared.fault.LineError.{LineError}
use Rattle.script.specs.declared.fault.LineError.TheVariants.{Wrong as Unlike}
use Rattle.script.specs.declared.parse.Entry.{Entry}
use Rattle.script.specs.declared.parse.Entry.TheVariants.{Call as Answered, Wrong}

module _ (place : ℕ) (line left : List ℕ) (read : Result (Option Call) LineError) (stripped : left ≡ bare line) (reads : ReadsLine left read) (calls : List Call) (entries : List Entry) where
  bare_reads : (l : Result (Option Call) LineError) → read ≡ l → ReadsLine (bare line) l
  bare_reads l e = subst (λ bs. ReadsLine bs l) stripped (subst (ReadsLine left) e reads)

  pub adds_nothing : read ≡ Ok None → Adds place line calls entries calls entries
  adds_nothing e = record {
    more_calls = [];
    more_entries = [];
    gives = record { read = Ok None; reads = bare_reads (Ok None) e; called = refl; noted = refl };
    calls_are = sym (append-nil calls);
    entries_are = sym (append-nil entries);
  }

  pub adds_call : (call : Call) (text : String Global) (calls' : List Call) (entries' : List Entry) → read ≡ Ok (Some call) → string_bytes text ≡ call_text call
      → calls' ≡ calls ++ call ∷ [] → entries' ≡ entries ++ Answered text ∷ [] → Adds place line calls entries calls' entries'
  adds_call call text calls' entries' e spelt called noted = record {
    more_calls = call ∷ [];
    more_entries = Answered text ∷ [];
    gives = record { read = Ok (Some call); reads = bare_reads (Ok (Some call)) e; called = refl; noted = (text, refl, spelt) };
    calls_are = called;
    entries_are = noted;
  }

  pub adds_fault : (fault : LineFault) (entries' : List Entry) → read ≡ Err (Unlike fault) → entries' ≡ entries ++ Wrong place fault ∷ [] → Adds place line calls entries calls entries'
  adds_fault fault entries' e noted = record {
    more_calls = [];
    more_entries = Wrong place fault ∷ [];
    gives = record { read = Err (Unlike fault); reads = bare_reads (Err (Unlike fault)) e; called = refl; noted = refl };
    calls_are = sym (append-nil calls);
    entries_are = noted;
  }
