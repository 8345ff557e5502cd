-- The cofactor and the fraction follower side by side, which is what a reduction is followed by.
use Rattle.std.specs.Prelude.{Option}
use Rattle.rule.specs.declared.command.Command.{Command}
use Rattle.rule.specs.declared.pair.AdmittedPair.{AdmittedPair}
use Rattle.follower.specs.Cofactor.{CofactorRows, cofactor_first, cofactor_turns}
use Rattle.follower.specs.CofactorTable.{CofactorFollower, cofactor_table}
use Rattle.follower.specs.Fraction.{FractionRows, fraction_first, fraction_turns}
use Rattle.follower.specs.FractionTable.{FractionFollower, fraction_table}
use Rattle.follower.specs.declared.pair.Pair.{Pair}

-- Both tables.
abbrev pub Tables : Type 0
Tables = Option CofactorRows × Option FractionRows

-- The tables of both followers.
abbrev pub tables_of : Pair CofactorFollower FractionFollower → Tables
tables_of f = (cofactor_table f.first, fraction_table f.second)

-- The tables of a pair before any command.
abbrev pub first_tables : AdmittedPair → Tables
first_tables p = (cofactor_first p, fraction_first p)

-- The tables after one command more.
abbrev pub next_tables : Tables → Command → Tables
next_tables t c = (cofactor_turns t.0 c, fraction_turns t.1 c)
