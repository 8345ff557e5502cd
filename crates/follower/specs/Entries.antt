-- The rows of the cofactor follower's table by their pairs of numbers, and how large these may be.
use Rattle.std.specs.Prelude.{ℕ, ◌≤◌, ℤ, unsigned_abs}
use Rattle.follower.specs.Cofactor.{CofactorRows}
use Rattle.follower.specs.declared.row.Row.{Row}

-- Both entries are at most m in size.
abbrev pub Within : ℕ → Row ℤ → Type 0
Within m r = (unsigned_abs r.left ≤ m) × (unsigned_abs r.right ≤ m)

-- The same rows, but for the second.
abbrev pub with_second : Row ℤ → CofactorRows → CofactorRows
with_second s r = record { n = r.n; x = r.x; y = r.y; c = r.c; d = r.d; e = s.left; f = s.right }
