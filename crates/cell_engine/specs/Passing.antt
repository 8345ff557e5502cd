-- What passes through the cell of a passage.
use Rattle.std.specs.Prelude.{◌≡◌, ℕ, false, ℤ, pos, Some, None, Option}
use Rattle.rule.specs.Whole.{odd, half, Below}
use Rattle.rule.specs.declared.command.Command.{Command}
use Rattle.cell.specs.Bits.{bit}
use Rattle.cell.specs.Cells.{gives, taken}
use Rattle.cell.specs.declared.link.Link.{Link}
use Rattle.cell.specs.declared.cell.Cell.{Cell}
use Rattle.cell.specs.declared.cell.Cell.TheVariants.{Idle, Started, Running}
use Rattle.cell_engine.specs.declared.passage.Passage.{Passage}

-- Link j of those that have the bits of x and y and no start mark.
abbrev pub plain : ℤ → ℤ → ℕ → Link
plain x y j = record { start = false; a = bit j x; b = bit j y; delta = pos 0; twos = 0 }

-- The command that a cell runs.
abbrev pub command_in : Cell → Option Command
command_in Idle = None
command_in (Started first) = None
command_in (Running r) = Some r.command

-- The passage once it has sent the next bits.
abbrev pub sent : Passage → Passage
sent p = record { cell = (taken p.cell (plain p.a p.b 0)).cell; a = half p.a; b = half p.b }

-- The links that are still given have the bits of x and y.
abbrev pub Gives : Passage → ℤ → ℤ → Type 0
Gives p x y = (k : ℕ) → gives p.cell (plain p.a p.b) k ≡ plain x y k

-- The first link has the lowest bits of x and y, those that follow have the rest, and both numbers have their sign at the last place.
pub record Stands (p : Passage) (first : Link) (last : ℕ) (x y : ℤ) : Type 0 where
  pub a : first.a ≡ odd x
  pub b : first.b ≡ odd y
  pub rest : Gives p (half x) (half y)
  pub below_a : Below last x
  pub below_b : Below last y

-- Whatever two numbers the links stand for are these two.
abbrev pub ReadsBack : Passage → Link → ℕ → ℤ × ℤ → Type 0
ReadsBack p first last r = (x y : ℤ) → Stands p first last x y → (r.0 ≡ x) × (r.1 ≡ y)
