use Rattle.std.proofs.Common.{◌≡◌, length, rules}
use Rattle.session.proofs.Events.{load_happened, stint_happened, work_happened, collect_happened, clear_happened}
use Rattle.session.proofs.perform.answer.Goals as goal

pub returns-in-Load : goal.returns-in-Load
returns-in-Load g c = load_happened _ _ c.args.call c.in-Load.frame _ c.load.result c.in-Load.is c.as_slice.ensures.value c.load.ensures

pub returns-in-Stint : goal.returns-in-Stint
returns-in-Stint g c = stint_happened _ _ c.args.call c.in-Stint.most c.stint.result c.in-Stint.is c.stint.ensures

pub returns-in-Work : goal.returns-in-Work
returns-in-Work g c = work_happened _ _ c.args.call c.in-Work.budget c.work.result c.in-Work.is c.work.ensures

pub returns-in-Collect : goal.returns-in-Collect
returns-in-Collect g c =
    let long : length c.collect-length.new.buffer ≡ c.in-Collect.buffer.len = search rules in
    collect_happened _ c.args.call c.in-Collect.buffer c.as_mut_slice.result.now c.collect-length.new.buffer c.collect-length.result c.in-Collect.is c.as_mut_slice.ensures.value long c.collect-length.ensures

pub returns-in-Clear : goal.returns-in-Clear
returns-in-Clear g c = clear_happened _ _ c.args.call c.clear.result c.in-Clear.is c.clear.ensures
