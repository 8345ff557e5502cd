-- What `trim_start_matches` and `find` give at blanks and tabs is how a text is cut into words.
use Rattle.std.proofs.Common.{◌≡◌, ℕ, zero, suc, ◌<◌, ◌≤◌, Bool, true, false, cond, List, [], ◌∷◌, ◌++◌, length, get_or, take, drop, IfSome, Some, None, Option, sym, refl, ap, ◌∙◌, subst, ⊎_elim, true≢false, arith, length-drop, rules}
use mathlib.Core.Bool.{false≢true}
use lib.Utf8.{scalar}
use Rattle.std.specs.Str.Pattern.{FindsPrefixBy, FindsBy, IsTrimStartMatches, IsFullyTrimmed, CutsPrefixes}
use Rattle.std.specs.Str.{NoCharPasses}
use Rattle.std.proofs.lemmas.Str.Pattern.{drop_at_char}
use Rattle.std.proofs.lemmas.Str.{encode_ascii, NoCharPasses-byte}
use Rattle.std.proofs.str.Laws.{order}
use Rattle.script.specs.Words.{after_word, first_word, from, separates, skipped, up_to}

-- ---- what separates

separates_low : (c : ℕ) → separates c ≡ true → c < 128
separates_low c h = search rules

separates_high : (c : ℕ) → 128 ≤ c → separates c ≡ false
separates_high c h = search rules

separates_scalar : (c : ℕ) → separates c ≡ true → scalar c ≡ true
separates_scalar c h = search rules

-- ---- the front

skipped_one : (c : ℕ) (cs : List ℕ) → separates c ≡ true → skipped (c ∷ cs) ≡ skipped cs
skipped_one c cs h = ap (λ b. cond b (skipped cs) (c ∷ cs)) h

-- What a pattern of a blank and a tab says of the front of a text, for every test that agrees with it.
abbrev pub Begins : List ℕ → Option ℕ → Type 0
Begins m o = (t : ℕ → Bool) → ((c : ℕ) → separates c ≡ t c) → FindsPrefixBy t m o

skipped_peeled : (s ns r : List ℕ) → CutsPrefixes Begins s ns r → skipped s ≡ skipped r
skipped_peeled s [] r e = ap skipped (sym e)
skipped_peeled s (n ∷ ns) r h =
    let such = h.2 separates (λ _. refl) in
    skipped_peeled s ns h.0 h.1 ∙ ap skipped (drop_at_char such.0 h.0 0 n such.2 (separates_low such.0 such.1))
    ∙ skipped_one such.0 (drop n h.0) such.1 ∙ ap skipped (sym h.3)

stopped : (x : ℕ) (xs : List ℕ) (o : Option ℕ) → FindsPrefixBy separates (x ∷ xs) o → IfSome o (λ n. n ≡ 0) → skipped (x ∷ xs) ≡ x ∷ xs
stopped x xs None b z = kept (separates x) refl
  where
    kept : (t : Bool) → separates x ≡ t → skipped (x ∷ xs) ≡ x ∷ xs
    kept false e = ap (λ t. cond t (skipped xs) (x ∷ xs)) e
    kept true e = absurd (true≢false (sym e ∙ b x xs (separates_scalar x e) (sym (ap (λ l. l ++ xs) (encode_ascii x (separates_low x e))))))
stopped x xs (Some n) b z =
    absurd (omega (arith, z, ap length (drop_at_char b.0 (x ∷ xs) 0 n b.2 (separates_low b.0 b.1)), length-drop n (x ∷ xs)))

skipped_stops : (r : List ℕ) → IsFullyTrimmed Begins r → skipped r ≡ r
skipped_stops [] h = refl
skipped_stops (x ∷ xs) h = stopped x xs h.0 (h.1 separates (λ _. refl)) h.2

skipped_trimmed : (s r : List ℕ) → IsTrimStartMatches Begins s r → skipped s ≡ r
skipped_trimmed s r h = skipped_peeled s h.0.0 r h.0.1 ∙ skipped_stops r h.1

-- ---- the word

abbrev Solid : List ℕ → Type 0
Solid bs = (i : ℕ) → i < length bs → separates (get_or bs i 0) ≡ false

solid_without : (bs : List ℕ) → NoCharPasses separates bs → Solid bs
solid_without bs w i lt = ⊎_elim (λ low. NoCharPasses-byte separates bs i w lt low) (λ high. separates_high (get_or bs i 0) high) (order (get_or bs i 0) 128)

solid_rest : (c : ℕ) (cs : List ℕ) → Solid (c ∷ cs) → Solid cs
solid_rest c cs h i lt = h (suc i) (omega (arith, lt))

up_to_solid : (bs : List ℕ) → Solid bs → up_to bs ≡ bs
up_to_solid [] h = refl
up_to_solid (c ∷ cs) h = ap (λ b. cond b [] (c ∷ up_to cs)) (h 0 (omega arith)) ∙ ap (λ l. c ∷ l) (up_to_solid cs (solid_rest c cs h))

from_solid : (bs : List ℕ) → Solid bs → from bs ≡ []
from_solid [] h = refl
from_solid (c ∷ cs) h = ap (λ b. cond b (c ∷ cs) (from cs)) (h 0 (omega arith)) ∙ from_solid cs (solid_rest c cs h)

up_to_cut : (bs : List ℕ) (i : ℕ) → Solid (take i bs) → separates (get_or bs i 0) ≡ true → up_to bs ≡ take i bs
up_to_cut [] i h e = absurd (false≢true e)
up_to_cut (c ∷ cs) zero h e = ap (λ b. cond b [] (c ∷ up_to cs)) e
up_to_cut (c ∷ cs) (suc i) h e = ap (λ b. cond b [] (c ∷ up_to cs)) (h 0 (omega arith)) ∙ ap (λ l. c ∷ l) (up_to_cut cs i (solid_rest c (take i cs) h) e)

from_cut : (bs : List ℕ) (i : ℕ) → Solid (take i bs) → separates (get_or bs i 0) ≡ true → from bs ≡ drop i bs
from_cut [] i h e = absurd (false≢true e)
from_cut (c ∷ cs) zero h e = ap (λ b. cond b (c ∷ cs) (from cs)) e
from_cut (c ∷ cs) (suc i) h e = ap (λ b. cond b (c ∷ cs) (from cs)) (h 0 (omega arith)) ∙ from_cut cs i (solid_rest c (take i cs) h) e

-- ---- the end that `find` gives

separates_found : (bs : List ℕ) (i j : ℕ) → FindsBy separates bs (Some (i, j)) → separates (get_or bs i 0) ≡ true
separates_found bs i j f = subst (λ x. separates x ≡ true) (sym (f.1.2.byte (separates_low f.1.0 f.1.1))) f.1.1

-- ---- both

pub word_found : (text left : List ℕ) (i j : ℕ) → IsTrimStartMatches Begins text left → FindsBy separates left (Some (i, j)) → (first_word text ≡ take i left) × (after_word text ≡ drop i left)
word_found text left i j p f =
    let start = skipped_trimmed text left p in
    let solid = solid_without (take i left) f.0 in
    let ends = separates_found left i j f in
    (ap up_to start ∙ up_to_cut left i solid ends, ap from start ∙ from_cut left i solid ends)

pub word_unfound : (text left : List ℕ) → IsTrimStartMatches Begins text left → FindsBy separates left None → (first_word text ≡ left) × (after_word text ≡ [])
word_unfound text left p f =
    let start = skipped_trimmed text left p in
    let solid = solid_without left f in
    (ap up_to start ∙ up_to_solid left solid, ap from start ∙ from_solid left solid)
