use Rattle.std.proofs.Common.{[], ◌∷◌, ◌++◌, Ok, Err, ◌∙◌, ap}
use Rattle.script.specs.declared.parse.Entry.TheVariants.{Wrong}
use Rattle.script.proofs.Added.{adds_nothing, adds_call, adds_fault}
use Rattle.script.proofs.parse.Script.add.Goals as goal

pub returns-in-Ok-None : goal.returns-in-Ok-None
returns-in-Ok-None c =
    adds_nothing c.args.place c.args.line.now c.without_return.result.now c.read_line.result c.without_return.ensures c.read_line.ensures
    c.args.self.now.calls.items c.args.self.now.entries.items (c.in-Ok-None.is ∙ ap Ok c.in-Ok-None.field-0-is)

pub returns-in_ok-push-in-Ok-Some-2 : goal.returns-in_ok-push-in-Ok-Some-2
returns-in_ok-push-in-Ok-Some-2 c =
    adds_call c.args.place c.args.line.now c.without_return.result.now c.read_line.result c.without_return.ensures c.read_line.ensures
    c.args.self.now.calls.items c.args.self.now.entries.items c.in-Ok-Some.call c.in_ok-format-in-Ok-Some.field-0 _ _ (c.in-Ok-Some.is ∙ ap Ok c.in-Ok-Some.field-0-is)
    c.in_ok-format-in-Ok-Some.ensures.ok c.in_ok-push-in-Ok-Some-2.ensures.items c.in_ok-push-in-Ok-Some.ensures.items

pub returns-in_ok-push-in-Err-Wrong : goal.returns-in_ok-push-in-Err-Wrong
returns-in_ok-push-in-Err-Wrong c =
    adds_fault c.args.place c.args.line.now c.without_return.result.now c.read_line.result c.without_return.ensures c.read_line.ensures
    c.args.self.now.calls.items c.args.self.now.entries.items c.in-Err-Wrong.fault c.push-in-Err-Wrong.new.self.items (c.in-Err-Wrong.is ∙ ap Err c.in-Err-Wrong.field-0-is)
    (c.in_ok-push-in-Err-Wrong.ensures.items ∙ ap (λ fault. c.args.self.now.entries.items ++ Wrong c.args.place fault ∷ []) c.in-Err-Wrong.fault-is)
