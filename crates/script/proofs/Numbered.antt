-- The lines of a text, which `split` and `enumerate` give with their numbers.
use Rattle.std.proofs.Common.{◌≡◌, ◌≢◌, ℕ, zero, suc, ◌+◌, ◌<◌, Bool, true, false, cond, eqb, List, [], ◌∷◌, map, length, get_or, sym, refl, ap, ◌∙◌, subst, arith, lit<, rules}
use Rattle.std.specs.Borrow.{Bor}
use Rattle.std.specs.declared.iter.Enumerate.{Enumerate}
use Rattle.std.specs.declared.str.Split.{Split}
use Rattle.std.specs.Iterator.Adapters.{enumerate_count, enumerate_source, enumerate_steps}
use Rattle.std.specs.List.{AllByRecursion, enumerate_from, onto_first, slice_split}
use Rattle.std.specs.Str.Iter.{LacksByte, split_has_more, split_pattern, split_steps, split_text}
use Rattle.std.specs.Str.Pattern.{FindsChar}
use Rattle.std.proofs.lemmas.Iterator.{YieldsList}
use Rattle.std.proofs.lemmas.Iterator.Consumers.{YieldsList-at, YieldsList-from_enumerate}
use Rattle.std.proofs.lemmas.Iterator.Splits.{YieldsList-from_str_split}
use Rattle.std.proofs.lemmas.List.FromFn.{get_or-enumerate_from, length-enumerate_from}
use Rattle.std.proofs.lemmas.List.Splits.{join_with_byte-slice_split}
use Rattle.std.proofs.lemmas.Simd.{map-map}
use Rattle.session.specs.declared.call.Call.{Call}
use Rattle.script.specs.Scripts.{AddInTurn, ScriptOf}
use Rattle.script.specs.declared.parse.Entry.{Entry}

abbrev pub lines_of : List ℕ → List (List ℕ)
lines_of = slice_split (λ b. eqb b 10)

-- ---- each line lacks a line feed

abbrev Lacking : List (List ℕ) → Type 0
Lacking = AllByRecursion (LacksByte 10)

lacks_more : (b : ℕ) (bs : List ℕ) → b ≢ 10 → LacksByte 10 bs → LacksByte 10 (b ∷ bs)
lacks_more b bs other lacks zero within = other
lacks_more b bs other lacks (suc k) within = lacks k (omega (arith, within))

lacking_onto : (b : ℕ) (parts : List (List ℕ)) → b ≢ 10 → Lacking parts → Lacking (onto_first b parts)
lacking_onto b [] other lacking = (lacks_more b [] other (λ k within. absurd (omega (arith, within))), tt)
lacking_onto b (part ∷ parts) other lacking = (lacks_more b part other lacking.0, lacking.1)

lacking_more : (b : ℕ) (parts : List (List ℕ)) (t : Bool) → eqb b 10 ≡ t → Lacking parts → Lacking (cond t ([] ∷ parts) (onto_first b parts))
lacking_more b parts true e lacking = ((λ k within. absurd (omega (arith, within))), lacking)
lacking_more b parts false e lacking = lacking_onto b parts (λ same. search rules) lacking

lines_apart : (text : List ℕ) → Lacking (lines_of text)
lines_apart [] = ((λ k within. absurd (omega (arith, within))), tt)
lines_apart (b ∷ bs) = lacking_more b (lines_of bs) (eqb b 10) refl (lines_apart bs)

-- ---- each with its number

pub lines_given : {s : Split ℕ} {i j : Enumerate (Split ℕ)} (text : List ℕ) → split_text s ≡ text → split_has_more s ≡ true → split_pattern s ≡ 10 → enumerate_source i ≡ s → enumerate_count i ≡ 0 → j ≡ i
    → YieldsList {B = ℕ × List ℕ} (enumerate_steps (split_steps FindsChar (λ a b. b ≡ a))) (λ x. (x.0, x.1.now)) j (enumerate_from 0 (lines_of text))
lines_given text is more pattern source count same = YieldsList-at same (YieldsList-from_enumerate (YieldsList-at source (YieldsList-from_str_split 10 text (lit< tt) is more pattern)) count)

pub index_is : (lines : List (List ℕ)) (k : ℕ) (x : ℕ × List ℕ) → (k < length (enumerate_from 0 lines)) × (x ≡ get_or (enumerate_from 0 lines) k x) → x.0 ≡ k
index_is lines k x h = ap (λ p. p.0) (h.1 ∙ get_or-enumerate_from 0 lines k x (omega (arith, h.0, length-enumerate_from 0 lines))) ∙ omega arith

without_numbers : (n : ℕ) (lines : List (List ℕ)) → map (λ p. p.1) (enumerate_from n lines) ≡ lines
without_numbers n [] = refl
without_numbers n (line ∷ lines) = ap (λ ls. line ∷ ls) (without_numbers (n + 1) lines)

pub script_of : (text : List ℕ) (given : List (ℕ × Bor (List ℕ))) (calls : List Call) (entries : List Entry) → map {B = ℕ × List ℕ} (λ x. (x.0, x.1.now)) given ≡ enumerate_from 0 (lines_of text)
    → AddInTurn 1 (map (λ x. x.1.now) given) [] [] calls entries → ScriptOf text calls entries
script_of text given calls entries e added = record {
  lines = lines_of text;
  whole = sym (join_with_byte-slice_split 10 text);
  apart = lines_apart text;
  added = subst (λ ls. AddInTurn 1 ls [] [] calls entries) (sym (map-map (λ p. p.1) (λ x. (x.0, x.1.now)) given) ∙ ap (map (λ p. p.1)) e ∙ without_numbers 0 (lines_of text)) added;
}
