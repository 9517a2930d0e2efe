use Rattle.std.proofs.Common.{◌≡◌, ◌<◌, length, arith, refl}
use Rattle.std.proofs.lemmas.Grind.{common_steps}
use Rattle.ttp_model.specs.Instance.{node_of, process_at}
use Rattle.ttp_model.specs.Parts.{instance_of}
use Rattle.ttp_model.specs.Network.{is_process_of}
use Rattle.ttp_model.specs.declared.error.Place.TheVariants.{AtProcess}
use Rattle.std.proofs.lemmas.Result.{IfOk-weaker}
use Rattle.ttp_model.proofs.NetworkLists.{pairs_first, pairs_more, same_lists_of}
use Rattle.ttp_model.proofs.network.by_node.Goals as goal

pub loop-p-init : goal.loop-p-init
loop-p-init c = rw c.in_ok-pairs.ensures.items (pairs_first (length c.args.parts.now.nodes.items) (is_process_of (instance_of c.args.parts.now)))

pub loop-p-preserved : goal.loop-p-preserved
loop-p-preserved c =
    let parts = c.args.parts.now in
    let there : c.loop-p.p < length parts.processes.items = omega (arith, c.loop-p-test.true, c.len-p-end.ensures) in
    let i = instance_of parts in
    let p = c.loop-p.p in
    let is : c.index-process.result.now ≡ process_at i p = grind (arith, common_steps) in
    rw (c.in_ok-push.ensures.items, is) (pairs_more (length parts.nodes.items) (is_process_of i) p c.loop-p.pairs.items (node_of i p) (c.requires.indices (AtProcess p) there) (λ key. refl) c.loop-p.invariant)

pub of-requires : goal.of-requires
of-requires c =
    let bound : c.len-2.result ≡ length c.args.parts.now.nodes.items = omega (arith, c.len-2.ensures) in
    rw (c.as_slice.ensures.value, bound) c.loop-p.invariant.keyed

pub returns : goal.returns
returns c =
    let parts = c.args.parts.now in
    let all : c.loop-p.p ≡ length parts.processes.items = omega (arith, c.loop-p.auto.p-end, c.loop-p-test.false, c.len-p-end.ensures) in
    IfOk-weaker c.of.result _ _ (λ groups are. same_lists_of _ _ _ (length parts.nodes.items) c.loop-p.p (length parts.processes.items) (is_process_of (instance_of parts)) all c.loop-p.invariant are) (rw c.as_slice.ensures.value at c.of.ensures)
