-- Two of a kind, which change places where the mark is set.
use Rattle.std.specs.Prelude.{Bool, true, false}

abbrev pub exchanged : {T : Type 0} → Bool → T → T → T × T
exchanged false x y = (x, y)
exchanged true x y = (y, x)
