-- What is shown of a cell.
use Rattle.std.specs.Prelude.{◌≡◌, ℕ, suc, ◌+◌, ◌^◌, ◌<◌, ℤ, unsigned_abs}
use Rattle.rule.specs.Rule.{State, next}
use Rattle.rule.specs.Whole.{whole}
use Rattle.cell.specs.Links.{blank, links}
use Rattle.cell.specs.Cells.{gives}
use Rattle.cell.specs.declared.cell.Cell.TheVariants.{Idle}

-- δ and twos fit 16 bits with room for one command more.
pub record HasRoom (s : State ℤ) : Type 0 where
  pub δ : unsigned_abs s.δ + 1 < 2 ^ 15
  pub twos : s.twos + 1 < 2 ^ 16

-- A cell without a start that takes the links of a state gives a blank link, and then the links of the state after the rule's command.
abbrev pub CellObeys : Type 0
CellObeys = (s : State ℤ) → HasRoom s → (gives Idle (links s) 0 ≡ blank) × ((k : ℕ) → gives Idle (links s) (suc k) ≡ links (next whole s) k)
