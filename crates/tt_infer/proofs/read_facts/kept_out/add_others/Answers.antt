use Rattle.std.proofs.Common.{ℕ, length, slice_index, arith}
use Rattle.ttp_model.specs.Instance.{source_of}
use Rattle.ttp_model.specs.Network.{is_message_of}
use Rattle.tt_infer.specs.Added.{KeepsOtherOut}
use Rattle.tt_infer.proofs.AddedFacts.{adds_listed, adds_first, adds_more}
use Rattle.tt_infer.proofs.OfItsNode.{other_of_node}
use Rattle.tt_infer.proofs.read_facts.kept_out.add_others.Goals as goal

pub loop-k-init : goal.loop-k-init
loop-k-init c =
    let f = c.args.facts.now in
    let xs = c.messages_of-k-items.result.now in
    record { within = omega arith; adds = adds_first (λ (j : ℕ). KeepsOtherOut f.instance f.known c.args.m c.args.r (slice_index xs j)) _ }

pub loop-k-preserved : goal.loop-k-preserved
loop-k-preserved c =
    let f = c.args.facts.now in
    let xs = c.messages_of-k-items.result.now in
    record {
      within = omega (arith, c.loop-k-test.true);
      adds = adds_more (λ (j : ℕ). KeepsOtherOut f.instance f.known c.args.m c.args.r (slice_index xs j)) c.loop-k.k-index _ _ _ c.loop-k.invariant.adds c.in_ok-add_other.ensures;
    }

pub returns : goal.returns
returns c =
    let f = c.args.facts.now in
    let list = rw c.instance-instance.ensures.value at (rw c.source_of.ensures.value at c.messages_of-k-items.ensures.value) in
    adds_listed (KeepsOtherOut f.instance f.known c.args.m c.args.r) (is_message_of f.instance (source_of f.instance c.args.m)) (length f.instance.messages) c.loop-k.k-index _ _ _ (other_of_node f.instance f.known c.args.m c.args.r) list c.loop-k.invariant.within c.loop-k-test.false c.loop-k.invariant.adds
