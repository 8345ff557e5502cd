-- The frame of a result as a list of bytes.
use Rattle.std.specs.Prelude.{ℕ, ◌+◌, ◌*◌, List, ◌++◌, pos}
use Rattle.rule.specs.Admission.{width}
use Rattle.frame.specs.Numbers.{two_bytes, signed_bytes}
use Rattle.frame.specs.Frames.{head}
use Rattle.frame.specs.declared.reduction.Reduction.{Reduction}

-- How many bytes each number of a reduction takes.
abbrev pub width_of : Reduction → ℕ
width_of r = width r.order.value

abbrev pub result_frame : Reduction → List ℕ
result_frame r =
    head (7 + 5 * width_of r) r.order.value
    ++ two_bytes r.count
    ++ two_bytes r.twos
    ++ signed_bytes (width_of r) (pos r.g)
    ++ signed_bytes (width_of r) r.u
    ++ signed_bytes (width_of r) r.v
    ++ signed_bytes (width_of r) r.numerator
    ++ signed_bytes (width_of r) r.denominator
