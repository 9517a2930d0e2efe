use Rattle.std.proofs.Common.{ℕ, length, slice_index, arith}
use Rattle.ttp_model.specs.Network.{is_message_of}
use Rattle.tt_infer.specs.Added.{BoundsCounted}
use Rattle.tt_infer.proofs.AddedFacts.{adds_listed, adds_first, adds_more}
use Rattle.tt_infer.proofs.OfItsNode.{counted_of_node}
use Rattle.tt_infer.proofs.read_facts.spans.add_channel.Goals as goal

pub loop-m-init : goal.loop-m-init
loop-m-init c =
    let f = c.args.facts.now in
    let xs = c.messages_of-m-items.result.now in
    record { within = omega arith; adds = adds_first (λ (j : ℕ). BoundsCounted f.instance f.choice f.known c.args.k c.args.n c.args.a c.args.b (slice_index xs j)) _ }

pub loop-m-preserved : goal.loop-m-preserved
loop-m-preserved c =
    let f = c.args.facts.now in
    let xs = c.messages_of-m-items.result.now in
    record {
      within = omega (arith, c.loop-m-test.true);
      adds = adds_more (λ (j : ℕ). BoundsCounted f.instance f.choice f.known c.args.k c.args.n c.args.a c.args.b (slice_index xs j)) c.loop-m.m-index _ _ _ c.loop-m.invariant.adds c.in_ok-add_counted.ensures;
    }

pub returns : goal.returns
returns c =
    let f = c.args.facts.now in
    let list = rw c.instance-instance.ensures.value at c.messages_of-m-items.ensures.value in
    adds_listed (BoundsCounted f.instance f.choice f.known c.args.k c.args.n c.args.a c.args.b) (is_message_of f.instance c.args.n) (length f.instance.messages) c.loop-m.m-index _ _ _ (counted_of_node f.instance f.choice f.known c.args.k c.args.n c.args.a c.args.b) list c.loop-m.invariant.within c.loop-m-test.false c.loop-m.invariant.adds
