-- What the cofactor follower holds.
use Rattle.std.specs.Prelude.{Option}
use Rattle.std.specs.Option.{option_map}
use Rattle.follower.specs.Cofactor.{CofactorRows}
use Rattle.follower.specs.declared.entries.Entries.{Entries}
use Rattle.follower.specs.declared.table.TableFollower.{TableFollower}

-- The rows that the entries are.
abbrev pub rows_of : Entries → CofactorRows
rows_of t = record { n = t.order.value; x = t.pair.left; y = t.pair.right; c = t.first.left; d = t.first.right; e = t.second.left; f = t.second.right }

-- The cofactor follower.
abbrev pub CofactorFollower : Type 0
CofactorFollower = TableFollower Entries

-- None before begin.
abbrev pub cofactor_table : CofactorFollower → Option CofactorRows
cofactor_table f = option_map rows_of f.table
