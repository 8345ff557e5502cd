use Rattle.std.proofs.Common.{[], map}
use Rattle.script.specs.Scripts.{AddInTurn}
use Rattle.script.proofs.parse.parse.Given as goal

-- The lines so far, with what they added.
abbrev pub invariant-loop-index : goal.invariant-loop-index
invariant-loop-index l = AddInTurn 1 (map (λ x. x.1.now) l.yielded) [] [] l.script.calls.items l.script.entries.items
