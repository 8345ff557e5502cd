use Rattle.std.proofs.Common.{ℤ, ◌^◌}
use Rattle.cell_engine.specs.Passing.{Stands}
use Rattle.cell_engine.proofs.Passing.{Within, Got}
use Rattle.cell_engine.proofs.passage.Passage.read.Given as goal

abbrev pub invariant-loop-place : goal.invariant-loop-place
invariant-loop-place l =
    Within (2 ^ l.place) l.a × Within (2 ^ l.place) l.b × ((x y : ℤ) → Stands l.initial.self l.fn.first l.last x y → Got l.self (2 ^ l.place) l.a l.b x y)
