-- The table and the read-out of a fraction follower as the code holds it.
use Rattle.std.specs.Prelude.{Some, None, Option}
use Rattle.std.specs.Option.{option_map}
use Rattle.follower.specs.Fraction.{FractionRows, numerator_of, denominator_of}
use Rattle.follower.specs.declared.fraction.KeptRows.{KeptRows}
use Rattle.follower.specs.declared.fraction.Ratio.{Ratio}
use Rattle.follower.specs.declared.table.TableFollower.{TableFollower}

-- The table that kept rows are.
abbrev pub rows_of : KeptRows → FractionRows
rows_of t = record { order = t.first.order.value; first = t.first.entries; second = t.second.entries }

-- The fraction follower.
abbrev pub FractionFollower : Type 0
FractionFollower = TableFollower KeptRows

-- None before begin.
abbrev pub fraction_table : FractionFollower → Option FractionRows
fraction_table f = option_map rows_of f.table

-- The numerator and the denominator of a table, if there is one.
abbrev pub read_out : Option FractionRows → Option Ratio
read_out None = None
read_out (Some t) = Some (record { numerator = numerator_of t; denominator = denominator_of t })
