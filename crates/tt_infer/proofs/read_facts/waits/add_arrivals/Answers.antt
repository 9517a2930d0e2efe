use Rattle.std.proofs.Common.{ℕ, length, slice_index, arith}
use Rattle.ttp_model.specs.Network.{is_received_by}
use Rattle.tt_infer.specs.Added.{TellsArrival}
use Rattle.tt_infer.proofs.AddedFacts.{adds_listed, adds_first, adds_more}
use Rattle.tt_infer.proofs.OfItsNode.{arrival_received}
use Rattle.tt_infer.proofs.read_facts.waits.add_arrivals.Goals as goal

pub loop-m-init : goal.loop-m-init
loop-m-init c =
    let xs = c.received_by-m-items.result.now in
    record { within = omega arith; adds = adds_first (λ (j : ℕ). TellsArrival c.args.instance.now c.args.p (slice_index xs j)) _ }

pub loop-m-preserved : goal.loop-m-preserved
loop-m-preserved c =
    let xs = c.received_by-m-items.result.now in
    record {
      within = omega (arith, c.loop-m-test.true);
      adds = adds_more (λ (j : ℕ). TellsArrival c.args.instance.now c.args.p (slice_index xs j)) c.loop-m.m-index _ _ _ c.loop-m.invariant.adds c.in_ok-add_arrival.ensures;
    }

pub returns : goal.returns
returns c =
    let i = c.args.instance.now in
    adds_listed (TellsArrival i c.args.p) (is_received_by i c.args.p) (length i.messages) c.loop-m.m-index _ _ _ (arrival_received i c.args.p) c.received_by-m-items.ensures.value c.loop-m.invariant.within c.loop-m-test.false c.loop-m.invariant.adds
