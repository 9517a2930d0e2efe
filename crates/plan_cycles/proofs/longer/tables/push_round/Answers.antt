use Rattle.medl_tables.specs.Text.{row_line}
use Rattle.plan_cycles.specs.Rounds.{empty_row}
use Rattle.plan_cycles.proofs.BehindCycle.{line_grows}
use Rattle.plan_cycles.proofs.longer.tables.push_round.Goals as goal

pub loop-k-preserved : goal.loop-k-preserved
loop-k-preserved c =
    line_grows _ _ _ (row_line c.args.instance.now) (empty_row c.args.plan.now c.args.round) c.loop-k.k c.loop-k.invariant c.in_ok-push_row.ensures
