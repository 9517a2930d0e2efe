use Rattle.tt_layout.proofs.Ranges.{flat_map-range_with_len_more}
use Rattle.medl_tables.specs.Rows.{round_rows}
use Rattle.medl_tables.proofs.rows.rows_of.Goals as goal

pub loop-round-preserved : goal.loop-round-preserved
loop-round-preserved c =
    rw (c.in_ok-push_round.ensures, c.loop-round.invariant) (flat_map-range_with_len_more (round_rows c.args.instance.now c.args.plan.now c.args.node) c.loop-round.round)
