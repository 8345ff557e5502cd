use Rattle.std.proofs.Common.{◌+◌, [], ◌∷◌, map, length, refl, sym, subst, arith}
use Rattle.std.proofs.lemmas.List.{length-map, map-append}
use Rattle.std.proofs.lemmas.Iterator.Consumers.{YieldsList-end, YieldsList-turn}
use Rattle.script.specs.Scripts.{AddInTurn}
use Rattle.script.proofs.Numbered.{index_is, lines_given, script_of}
use Rattle.script.proofs.Turns.{adds_at, texts_in_turn, turns_more}
use Rattle.script.proofs.parse.parse.Goals as goal

pub loop-index-preserved : goal.loop-index-preserved
loop-index-preserved c =
    let s = c.split.ensures in
    let e = c.enumerate-index-items.ensures in
    let lines = lines_given c.args.text.now s.text s.has_more s.pattern e.source e.count c.into_iter-index-iterator.ensures.into_iter_gives in
    let turn = YieldsList-turn lines c.loop-index.yielded c.loop-index.index-iterator c.loop-index.yielded_by c.next.result c.next.new.self (c.in-Some.index, c.in-Some.line) c.in-Some.is c.next.ensures.steps in
    let so_far = map (λ x. x.1.now) c.loop-index.yielded in
    let calls = c.loop-index.script.calls.items in
    let entries = c.loop-index.script.entries.items in
    subst (λ ls. AddInTurn 1 ls [] [] c.add.new.self.calls.items c.add.new.self.entries.items) (sym (map-append (λ x. x.1.now) c.loop-index.yielded ((c.in-Some.index, c.in-Some.line) ∷ [])))
    (turns_more 1 so_far c.in-Some.line.now [] calls c.add.new.self.calls.items [] entries c.add.new.self.entries.items c.loop-index.invariant
    (adds_at _ (1 + length so_far) c.in-Some.line.now calls _ entries _ c.in_ok-add.ensures (omega (arith, index_is _ _ _ turn, length-map c.loop-index.yielded (λ x. x.1.now)))))

pub returns-clause-lines : goal.returns-clause-lines
returns-clause-lines c =
    let s = c.split.ensures in
    let e = c.enumerate-index-items.ensures in
    let lines = lines_given c.args.text.now s.text s.has_more s.pattern e.source e.count c.into_iter-index-iterator.ensures.into_iter_gives in
    let end = YieldsList-end lines c.loop-index.yielded c.loop-index.index-iterator c.loop-index.yielded_by c.next.result c.next.new.self c.in-None.is c.next.ensures.steps in
    script_of c.args.text.now c.loop-index.yielded c.loop-index.script.calls.items c.loop-index.script.entries.items end.0 c.loop-index.invariant

pub returns-clause-texts : goal.returns-clause-texts
returns-clause-texts c =
    texts_in_turn 1 (map (λ x. x.1.now) c.loop-index.yielded) [] c.loop-index.script.calls.items [] c.loop-index.script.entries.items c.loop-index.invariant refl
