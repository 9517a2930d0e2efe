use Rattle.tt_layout.proofs.Ranges.{append-flat_map-range_with_len_more}
use Rattle.membership_replay.specs.Text.{member_line}
use Rattle.membership_replay.proofs.text.push_all_members.Goals as goal

pub loop-n-preserved : goal.loop-n-preserved
loop-n-preserved c =
    let more = append-flat_map-range_with_len_more c.args.text.now.items (member_line c.args.instance.now c.args.states.now) c.loop-n.n in
    rw (c.in_ok-push_members.ensures, c.loop-n.invariant) more
