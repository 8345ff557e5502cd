-- How long frames are.
use Rattle.std.proofs.Common.{◌≡◌, ℕ, ◌+◌, ◌*◌, length, ℤ, arith}
use Rattle.std.proofs.lemmas.List.{length-append}
use Rattle.rule.specs.Admission.{width}
use Rattle.frame.specs.Frames.{pair_frame}
use Rattle.frame.specs.Results.{width_of, result_frame}
use Rattle.frame.specs.declared.reduction.Reduction.{Reduction}
use Rattle.frame.proofs.Numbers.{length-signed_bytes}

pub pair_frame_length : (n : ℕ) (a b : ℤ) → length (pair_frame n a b) ≡ 5 + 2 * width n
pair_frame_length n a b = simp (length-append, length-signed_bytes) (omega arith)

pub result_frame_length : (r : Reduction) → length (result_frame r) ≡ 9 + 5 * width_of r
result_frame_length r = simp (length-append, length-signed_bytes) (omega arith)
