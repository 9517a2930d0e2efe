use Rattle.std.proofs.Common.{ℕ}
use Rattle.tt_layout.proofs.Ranges.{flat_map-range_with_len_more}
use Rattle.membership_replay.specs.Trace.{node_events, row_at}
use Rattle.membership_replay.proofs.events.events_of.Goals as goal

pub loop-i-preserved : goal.loop-i-preserved
loop-i-preserved c =
    let told = λ (i : ℕ). node_events (row_at c.args.medl.now 0 c.args.slot) c.args.losses.now (row_at c.args.medl.now i c.args.slot).messages c.args.states.now i in
    rw (c.in_ok-push_node.ensures, c.loop-i.invariant, c.messages_at.ensures, c.requires.row) (flat_map-range_with_len_more told c.loop-i.i)
