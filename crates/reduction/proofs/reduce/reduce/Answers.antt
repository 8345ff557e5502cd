use Rattle.std.proofs.Common.{length, ap, ◌∙◌, subst}
use Rattle.engine.specs.Runs.{spent}
use Rattle.follower.specs.Following.{table_at}
use Rattle.reduction.specs.Followers.{first_tables, next_tables}
use Rattle.reduction.specs.Results.{ReadsOut}
use Rattle.reduction.proofs.Ends.{along_finished, right_finished, reads_finished}
use Rattle.reduction.proofs.reduce.reduce.Goals as goal

pub unwrap-reduction-requires : goal.unwrap-reduction-requires
unwrap-reduction-requires g c =
    let f = c.in_ok-run.ensures.1 in
    reads_finished c.args.pair c.in_ok-run.run' _ c.read_out.result f (c.read_out.ensures (spent c.in_ok-run.run') (along_finished c.args.pair c.in_ok-run.run' _ _ f (c.follow_run.ensures ∙ ap (table_at first_tables next_tables c.args.pair) (ap length c.as_slice.ensures))))

pub returns : goal.returns
returns g c =
    let f = c.in_ok-run.ensures.1 in
    (c.in_ok-run.ensures, right_finished c.args.pair c.in_ok-run.run' _ _ f (subst (ReadsOut c.args.pair (spent c.in_ok-run.run')) c.unwrap-reduction.ensures (c.read_out.ensures (spent c.in_ok-run.run') (along_finished c.args.pair c.in_ok-run.run' _ _ f (c.follow_run.ensures ∙ ap (table_at first_tables next_tables c.args.pair) (ap length c.as_slice.ensures))))))
