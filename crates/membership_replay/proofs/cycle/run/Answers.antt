use Rattle.std.proofs.Common.{◌≡◌, ◌∙◌, length, refl, ap, arith}
use Rattle.std.proofs.lemmas.List.FromFn.{length-map-range_with_len, map-range_with_len_more}
use Rattle.medl_tables.proofs.TableParts.{tables-length}
use Rattle.membership_replay.specs.Trace.{first_state, slot_of}
use Rattle.membership_replay.proofs.TableSlots.{length-next_states, row_at-read, sender_inside, states_before-first, states_before-more}
use Rattle.membership_replay.proofs.cycle.run.Goals as goal

pub loop-slot-init : goal.loop-slot-init
loop-slot-init c =
    let all : length c.nodes-count.result.now ≡ length c.args.medl.now.rows = omega (arith, tables-length c.args.instance.now c.args.medl.now c.requires, ap length c.nodes-count.ensures.value) in
    record {
      slots = c.in_ok-slots.ensures.items;
      states = states_before-first _ _ _ _ c.in_ok-states.ensures all;
      count = rw c.in_ok-states.ensures (length-map-range_with_len (λ i. first_state (length c.nodes-count.result.now)) 0 (length c.nodes-count.result.now) ∙ all);
    }

pub slot_with-requires-clause-sender : goal.slot_with-requires-clause-sender
slot_with-requires-clause-sender c =
    sender_inside c.args.instance.now c.args.medl.now c.rows-rows.result.now c.loop-slot.slot c.index-rows-slot.result _ c.requires c.nodes-count.ensures.instance.limits.nodes_least c.rows-rows.ensures c.loop-slot-test.true c.index-rows-slot.is (ap length c.as_slice.ensures.value ∙ c.loop-slot.invariant.count)

pub slot_with-requires-clause-few : goal.slot_with-requires-clause-few
slot_with-requires-clause-few c =
    omega (arith, ap length c.as_slice.ensures.value, c.loop-slot.invariant.count, tables-length c.args.instance.now c.args.medl.now c.requires, c.nodes-count.ensures.instance.limits.nodes)

pub next_states-requires-clause-sender : goal.next_states-requires-clause-sender
next_states-requires-clause-sender c =
    sender_inside c.args.instance.now c.args.medl.now c.rows-rows.result.now c.loop-slot.slot c.index-rows-slot.result _ c.requires c.nodes-count.ensures.instance.limits.nodes_least c.rows-rows.ensures c.loop-slot-test.true c.index-rows-slot.is (ap length c.as_slice-in-loop-slot.ensures.value ∙ c.loop-slot.invariant.count)

pub next_states-requires-clause-few : goal.next_states-requires-clause-few
next_states-requires-clause-few c =
    omega (arith, ap length c.as_slice-in-loop-slot.ensures.value, c.loop-slot.invariant.count, tables-length c.args.instance.now c.args.medl.now c.requires, c.nodes-count.ensures.instance.limits.nodes)

pub loop-slot-preserved : goal.loop-slot-preserved
unfolding slot_of
loop-slot-preserved c =
    let row = row_at-read c.args.medl.now c.rows-rows.result.now c.loop-slot.slot c.index-rows-slot.result c.rows-rows.ensures c.loop-slot-test.true c.index-rows-slot.is in
    record {
      slots = rw (c.in_ok-push.ensures.items, c.loop-slot.invariant.slots, map-range_with_len_more (slot_of c.args.medl.now c.args.losses.now) 0 c.loop-slot.slot c.loop-slot.slot (omega arith), c.in_ok-slot_with.ensures, c.as_slice.ensures.value, c.loop-slot.invariant.states) refl;
      states = states_before-more _ _ _ _ _ _ row c.loop-slot.invariant.states (rw c.as_slice-in-loop-slot.ensures.value at c.in_ok-states-2.ensures);
      count = rw (c.in_ok-states-2.ensures, c.as_slice-in-loop-slot.ensures.value) (length-next_states _ _ _ ∙ c.loop-slot.invariant.count);
    }
