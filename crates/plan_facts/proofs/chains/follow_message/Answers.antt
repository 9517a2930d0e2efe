use Rattle.std.proofs.Common.{◌<◌, ◌≡◌, ℕ, ◌+◌, ◌≤◌, List, length, slice_index, arith, ap, ◌∙◌}
use Rattle.ttp_model.specs.Instance.{process_at, message_at, source_of}
use Rattle.ttp_model.specs.Chains.{least_transfer}
use Rattle.ttp_model.specs.declared.parts.Process.{Process}
use Rattle.ttp_model.specs.declared.parts.Message.{Message}
use Rattle.plan_facts.proofs.Walks.{end_small, from_places, receiver_followed}
use Rattle.plan_facts.proofs.chains.follow_message.Goals as goal

pub overflow_add-arrival : goal.overflow_add-arrival
overflow_add-arrival c =
    let end = end_small c.args.instance.now c.messages-messages.ensures.instance c.args.ends.now.items c.message_at-message.result.now.sender
    c.index-end.result.now c.requires.chains c.message_at-message.ensures.sender c.index-end.ensures in
    omega (arith, end.0, c.least_transfer.ensures.small)

pub overflow_add-arrival-in-loop-q : goal.overflow_add-arrival-in-loop-q
overflow_add-arrival-in-loop-q c =
    let end = end_small c.args.instance.now c.messages-messages.ensures.instance c.args.ends.now.items c.message_at-message.result.now.sender
    c.index-end.result.now c.requires.chains c.message_at-message.ensures.sender c.index-end.ensures in
    omega (arith, end.0, c.least_transfer.ensures.small, c.from.ensures, c.process_at.ensures.times.wcet)

pub loop-q-preserved : goal.loop-q-preserved
loop-q-preserved c =
    let i = c.args.instance.now in
    let end = end_small i c.messages-messages.ensures.instance c.args.ends.now.items c.message_at-message.result.now.sender c.index-end.result.now
    c.requires.chains c.message_at-message.ensures.sender c.index-end.ensures in
    let sender : c.message_at-message.result.now.sender ≡ (message_at i c.args.m).sender = ap (λ (m : Message). m.sender) c.message_at-message.ensures.value
    in
    let items : c.as_slice-q-items.result.now ≡ (message_at i c.args.m).receivers = c.as_slice-q-items.ensures
    ∙ ap (λ (m : Message). m.receivers) c.message_at-message.ensures.value in
    let place : c.loop-q.q-index < length (message_at i c.args.m).receivers = omega (arith, c.loop-q-test.true, ap length items) in
    let begun = c.requires.chains.reached (message_at i c.args.m).sender (rw sender at c.message_at-message.ensures.sender) in
    let start : c.index-end.result.now ≡ slice_index c.args.ends.now.items (message_at i c.args.m).sender = end.1
    ∙ ap (slice_index c.args.ends.now.items) sender in
    let sent = rw c.source_of.ensures.value at c.least_transfer.ensures.value in
    let arrival : c.index-end.result.now + c.least_transfer.result ≡ slice_index c.args.ends.now.items (message_at i c.args.m).sender + least_transfer i
    (source_of i c.args.m) = omega (arith, start, sent) in
    let long = c.from.ensures ∙ ap (λ (p : Process). p.wcet) c.process_at.ensures.value
    ∙ ap (λ (xs : List ℕ). (process_at i (slice_index xs c.loop-q.q-index)).wcet) items in
    let done = receiver_followed i c.messages-messages.ensures.instance c.args.ends.now.items c.loop-q.ends.items c.raise.new.ends.items c.args.m
    c.loop-q.q-index (slice_index c.args.ends.now.items (message_at i c.args.m).sender) (c.index-end.result.now + c.least_transfer.result) c.from.result
    c.requires.message place begun arrival c.loop-q.invariant.chains c.loop-q.invariant.kept c.loop-q.invariant.reach long (rw items at c.raise.ensures)
    in
    record { chains = done.0; kept = done.1; reach = done.2 }

pub returns-clause-reach : goal.returns-clause-reach
returns-clause-reach c =
    let i = c.args.instance.now in
    let end = end_small i c.messages-messages.ensures.instance c.args.ends.now.items c.message_at-message.result.now.sender c.index-end.result.now
    c.requires.chains c.message_at-message.ensures.sender c.index-end.ensures in
    let sender : c.message_at-message.result.now.sender ≡ (message_at i c.args.m).sender = ap (λ (m : Message). m.sender) c.message_at-message.ensures.value
    in
    let items : c.as_slice-q-items.result.now ≡ (message_at i c.args.m).receivers = c.as_slice-q-items.ensures
    ∙ ap (λ (m : Message). m.receivers) c.message_at-message.ensures.value in
    let start : c.index-end.result.now ≡ slice_index c.args.ends.now.items (message_at i c.args.m).sender = end.1
    ∙ ap (slice_index c.args.ends.now.items) sender in
    let sent = rw c.source_of.ensures.value at c.least_transfer.ensures.value in
    let arrival : c.index-end.result.now + c.least_transfer.result ≡ slice_index c.args.ends.now.items (message_at i c.args.m).sender + least_transfer i
    (source_of i c.args.m) = omega (arith, start, sent) in
    from_places (λ (q : ℕ). slice_index c.args.ends.now.items (message_at i c.args.m).sender + least_transfer i (source_of i c.args.m) +
    (process_at i q).wcet ≤ slice_index c.loop-q.ends.items q) (message_at i c.args.m).receivers
    (λ k inside. omega (arith, c.loop-q.invariant.reach k (omega (arith, inside, ap length items, c.loop-q-test.false)), arrival))

pub process_at-requires : goal.process_at-requires
process_at-requires c =
    let inside = rw (← c.as_slice-q-items.ensures) at c.message_at-message.ensures.receivers in
    inside c.loop-q.q-index 0 c.loop-q-test.true

pub raise-requires : goal.raise-requires
raise-requires c =
    let inside = rw (← c.as_slice-q-items.ensures) at c.message_at-message.ensures.receivers in
    rw c.loop-q.invariant.chains.all (inside c.loop-q.q-index 0 c.loop-q-test.true)
