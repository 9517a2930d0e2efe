use Rattle.std.proofs.Common.{ℕ, length, slice_index, arith}
use Rattle.ttp_model.specs.Network.{is_process_of}
use Rattle.tt_infer.specs.Added.{BoundsRunWithin}
use Rattle.tt_infer.proofs.AddedFacts.{adds_listed, adds_first, adds_more}
use Rattle.tt_infer.proofs.OfItsNode.{run_on_node}
use Rattle.tt_infer.proofs.read_facts.spans.add_load.Goals as goal

pub loop-p-init : goal.loop-p-init
loop-p-init c =
    let f = c.args.facts.now in
    let xs = c.processes_on-p-items.result.now in
    record { within = omega arith; adds = adds_first (λ (j : ℕ). BoundsRunWithin f.instance f.known c.args.n c.args.a c.args.b (slice_index xs j)) _ }

pub loop-p-preserved : goal.loop-p-preserved
loop-p-preserved c =
    let f = c.args.facts.now in
    let xs = c.processes_on-p-items.result.now in
    record {
      within = omega (arith, c.loop-p-test.true);
      adds = adds_more (λ (j : ℕ). BoundsRunWithin f.instance f.known c.args.n c.args.a c.args.b (slice_index xs j)) c.loop-p.p-index _ _ _ c.loop-p.invariant.adds c.in_ok-add_run_within.ensures;
    }

pub returns : goal.returns
returns c =
    let f = c.args.facts.now in
    let list = rw c.instance-instance.ensures.value at c.processes_on-p-items.ensures.value in
    adds_listed (BoundsRunWithin f.instance f.known c.args.n c.args.a c.args.b) (is_process_of f.instance c.args.n) (length f.instance.processes) c.loop-p.p-index _ _ _ (run_on_node f.instance f.known c.args.n c.args.a c.args.b) list c.loop-p.invariant.within c.loop-p-test.false c.loop-p.invariant.adds
