-- One command bit by bit: what fixes it, and each place of the new numbers.
use Rattle.std.specs.Prelude.{Bool, true, false, pos, int_le}
use Rattle.rule.specs.Rule.{command_by}
use Rattle.rule.specs.declared.command.Sign.{Sign}
use Rattle.rule.specs.declared.command.Sign.TheVariants.{Plus, Minus}
use Rattle.rule.specs.declared.command.Command.{Command}
use Rattle.rule.specs.declared.command.Command.TheVariants.{Both, Cross, Shift, PlusMinus}
use Rattle.cell.specs.Bits.{differ, sum_bit, carried}
use Rattle.cell.specs.declared.link.Link.{Link}
use Rattle.cell.specs.declared.run.Run.{Run}
use Rattle.cell.specs.declared.run.Place.{Place}

-- The command, by the bits of the first link, those after them and δ: 4 divides the sum of two odd numbers where their second bits differ.
abbrev pub fixed : Link → Bool → Bool → Command
fixed first a b = command_by first.a first.b (differ a b) (int_le (pos 0) first.delta)

-- A plus of two odd numbers carries out of the lowest place; a minus borrows nothing there.
abbrev pub first_carry : Command → Bool
first_carry Both = false
first_carry Cross = false
first_carry Shift = false
first_carry (PlusMinus Plus x) = true
first_carry (PlusMinus Minus x) = false

-- The run of the command that is fixed so, with the first link taken.
abbrev pub begun : Link → Bool → Bool → Run
begun first a b = record { command = fixed first a b; a = first.a; b = first.b; carry = first_carry (fixed first a b) }

-- The place of a plus or minus: the new a is what was kept, and the new b the sum or difference of x and y.
abbrev pub plus_minus : Sign → Bool → Bool → Bool → Bool → Place
plus_minus g kept x y c = record { a = kept; b = sum_bit x y c; carry = carried g x y c }

-- The next place of the new numbers by the command, where the bits a and b come: a halved number gives the bit that comes, and one that is not halved the bit before it.
abbrev pub place : Command → Run → Bool → Bool → Place
place Both r a b = record { a = a; b = b; carry = r.carry }
place Cross r a b = record { a = r.b; b = a; carry = r.carry }
place Shift r a b = record { a = r.a; b = b; carry = r.carry }
place (PlusMinus g false) r a b = plus_minus g r.a a b r.carry
place (PlusMinus g true) r a b = plus_minus g r.b b a r.carry

-- The link with the bits of a place.
abbrev pub bits : Place → Link
bits p = record { start = false; a = p.a; b = p.b; delta = pos 0; twos = 0 }

-- The run once it has taken the bits a and b: it keeps both.
abbrev pub run_after : Run → Bool → Bool → Run
run_after r a b = record { command = r.command; a = a; b = b; carry = (place r.command r a b).carry }
