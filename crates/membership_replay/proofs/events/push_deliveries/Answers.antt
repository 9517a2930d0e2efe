use Rattle.std.proofs.Common.{◌≡◌, refl, arith}
use Rattle.std.proofs.lemmas.List.{append-nil}
use Rattle.std.proofs.lemmas.Grind.{common_steps}
use Rattle.tt_layout.proofs.Ranges.{append-flat_map-range_with_len_more}
use Rattle.ttp_model.specs.declared.limits.TheConstants.{MOST_MESSAGES}
use Rattle.membership_replay.specs.Trace.{deliveries, delivery}
use Rattle.membership_replay.proofs.Deliveries.{deliveries-none}
use Rattle.membership_replay.proofs.events.push_deliveries.Goals as goal

pub returns-then-is_empty : goal.returns-then-is_empty
returns-then-is_empty c =
    rw (deliveries-none c.args.i c.args.messages.now (grind (arith, common_steps)), append-nil c.args.events.now.items) refl

pub loop-m-preserved : goal.loop-m-preserved
loop-m-preserved c =
    let more = append-flat_map-range_with_len_more c.args.events.now.items (delivery c.args.i c.args.messages.now) c.loop-m.m in
    rw (c.in_ok-push_delivery.ensures, c.loop-m.invariant) more

pub returns : goal.returns
unfolding deliveries
returns c =
    let all : c.loop-m.m ≡ MOST_MESSAGES = omega arith in
    rw all at c.loop-m.invariant
