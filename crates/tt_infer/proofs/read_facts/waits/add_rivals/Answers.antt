use Rattle.std.proofs.Common.{ℕ, length, slice_index, arith}
use Rattle.ttp_model.specs.Instance.{node_of}
use Rattle.ttp_model.specs.Network.{is_process_of}
use Rattle.tt_infer.specs.Added.{TellsRivalWait}
use Rattle.tt_infer.proofs.AddedFacts.{adds_listed, adds_first, adds_more}
use Rattle.tt_infer.proofs.OfItsNode.{rival_on_node}
use Rattle.tt_infer.proofs.read_facts.waits.add_rivals.Goals as goal

pub loop-x-init : goal.loop-x-init
loop-x-init c =
    let f = c.args.facts.now in
    let xs = c.processes_on-x-items.result.now in
    record { within = omega arith; adds = adds_first (λ (j : ℕ). TellsRivalWait f.instance f.known c.args.p (slice_index xs j)) _ }

pub loop-x-preserved : goal.loop-x-preserved
loop-x-preserved c =
    let f = c.args.facts.now in
    let xs = c.processes_on-x-items.result.now in
    record {
      within = omega (arith, c.loop-x-test.true);
      adds = adds_more (λ (j : ℕ). TellsRivalWait f.instance f.known c.args.p (slice_index xs j)) c.loop-x.x-index _ _ _ c.loop-x.invariant.adds c.in_ok-add_rival.ensures;
    }

pub returns : goal.returns
returns c =
    let f = c.args.facts.now in
    let list = rw c.instance-instance.ensures.value at (rw c.node_of.ensures.value at c.processes_on-x-items.ensures.value) in
    adds_listed (TellsRivalWait f.instance f.known c.args.p) (is_process_of f.instance (node_of f.instance c.args.p)) (length f.instance.processes) c.loop-x.x-index _ _ _ (rival_on_node f.instance f.known c.args.p) list c.loop-x.invariant.within c.loop-x-test.false c.loop-x.invariant.adds
