-- The frames as lists of bytes.
use Rattle.std.specs.Prelude.{ℕ, ◌+◌, ◌*◌, List, ◌∷◌, ◌++◌, ℤ}
use Rattle.rule.specs.Admission.{width}
use Rattle.rule.specs.declared.pair.AdmittedPair.{AdmittedPair}
use Rattle.frame.specs.Numbers.{two_bytes, signed_bytes}

-- The first five bytes of every frame: the length of all that follows it, the version, 1, and the order n.
abbrev pub head : ℕ → ℕ → List ℕ
head len n = two_bytes len ++ 1 ∷ two_bytes n

-- The frame of the pair a, b of order n.
abbrev pub pair_frame : ℕ → ℤ → ℤ → List ℕ
pair_frame n a b = head (3 + 2 * width n) n ++ signed_bytes (width n) a ++ signed_bytes (width n) b

-- The frame of a pair as the code holds it.
abbrev pub frame_of : AdmittedPair → List ℕ
frame_of p = pair_frame p.order.value p.a p.b
