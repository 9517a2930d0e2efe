use Rattle.std.proofs.Common.{ℕ, length, slice_index, arith}
use Rattle.ttp_model.specs.Graph.{Receives}
use Rattle.ttp_model.specs.Network.{is_received_by}
use Rattle.ttp_model.proofs.Raising.{raised_none, raised_more}
use Rattle.ttp_model.proofs.Indices.{raised_listed}
use Rattle.plan_facts.specs.Messages.{arrival}
use Rattle.plan_facts.proofs.Listed.{listed_is_received, received_is_listed}
use Rattle.plan_facts.proofs.starts.after_messages.Goals as goal

pub loop-m-init : goal.loop-m-init
loop-m-init c = record { within = omega arith; raised = raised_none _ _ _ }

pub loop-m-preserved : goal.loop-m-preserved
loop-m-preserved c =
    let i = c.args.instance.now in
    let xs = c.received_by-m-items.result.now in
    let P = λ (j : ℕ). Receives i c.args.p (slice_index xs j) in
    let f = λ (j : ℕ). arrival i c.args.plan.now (slice_index xs j) in
    let receives = listed_is_received i c.args.p c.loop-m.m-index xs c.received_by-m-items.ensures.value c.loop-m-test.true in
    record {
      within = omega (arith, c.loop-m-test.true);
      raised = rw (c.max-time.ensures, c.arrival.ensures) (raised_more P f c.args.floor c.loop-m.m-index c.loop-m.time c.loop-m.invariant.raised receives);
    }

pub returns : goal.returns
returns c =
    let i = c.args.instance.now in
    raised_listed (Receives i c.args.p) (arrival i c.args.plan.now) c.args.floor (is_received_by i c.args.p) (length i.messages) c.loop-m.time c.loop-m.m-index _ (λ m _. received_is_listed i c.args.p m) c.received_by-m-items.ensures.value c.loop-m.invariant.within c.loop-m-test.false c.loop-m.invariant.raised
