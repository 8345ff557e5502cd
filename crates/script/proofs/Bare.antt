-- What is left of a line where a carriage return was stripped.
use Rattle.std.proofs.Common.{◌≡◌, ℕ, Bool, true, false, cond, eqb, List, [], ◌∷◌, ◌++◌, Some, None, Option, unwrap_or, sym, refl, ap, ◌∙◌, Bor, true-eqb, MatchOption}
use Rattle.script.specs.Scripts.{bare}

bare_returned : (line : List ℕ) → bare (line ++ (13 ∷ [])) ≡ line
bare_returned [] = refl
bare_returned (c ∷ []) = refl
bare_returned (c ∷ d ∷ cs) = ap (λ l. c ∷ l) (bare_returned (d ∷ cs))

bare_same : (line : List ℕ) → ((front : List ℕ) → line ≡ front ++ (13 ∷ []) → ⊥) → bare line ≡ line
bare_same [] h = refl
bare_same (c ∷ []) h = kept (eqb c 13) refl
  where
    kept : (t : Bool) → eqb c 13 ≡ t → bare (c ∷ []) ≡ c ∷ []
    kept false e = ap (λ t. cond t [] (c ∷ [])) e
    kept true e = absurd (h [] (ap (λ x. x ∷ []) (true-eqb c 13 (sym e))))
bare_same (c ∷ d ∷ cs) h = ap (λ l. c ∷ l) (bare_same (d ∷ cs) (λ front e. h (c ∷ front) (ap (λ l. c ∷ l) e)))

pub bare_stripped : (line : Bor (List ℕ)) (r : Option (Bor (List ℕ))) → MatchOption r ((front : List ℕ) → line.now ≡ front ++ (13 ∷ []) → ⊥) (λ x. line.now ≡ x.now ++ (13 ∷ []))
    → (unwrap_or r line).now ≡ bare line.now
bare_stripped line None h = sym (bare_same line.now h)
bare_stripped line (Some x) h = sym (ap bare h ∙ bare_returned x.now)
