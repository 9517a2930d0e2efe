use Rattle.std.proofs.Common.{◌≡◌, ◌<◌, length, arith, refl}
use Rattle.std.proofs.lemmas.Grind.{common_steps}
use Rattle.ttp_model.specs.Instance.{link_at}
use Rattle.ttp_model.specs.Parts.{instance_of}
use Rattle.ttp_model.specs.Network.{leads_to}
use Rattle.ttp_model.specs.declared.error.Place.TheVariants.{AtLink}
use Rattle.std.proofs.lemmas.Result.{IfOk-weaker}
use Rattle.ttp_model.proofs.NetworkLists.{pairs_first, pairs_more, same_lists_of}
use Rattle.ttp_model.proofs.network.by_second.Goals as goal

pub loop-l-init : goal.loop-l-init
loop-l-init c = rw c.in_ok-pairs.ensures.items (pairs_first (length c.args.parts.now.processes.items) (leads_to (instance_of c.args.parts.now)))

pub loop-l-preserved : goal.loop-l-preserved
loop-l-preserved c =
    let parts = c.args.parts.now in
    let there : c.loop-l.l < length parts.links.items = omega (arith, c.loop-l-test.true, c.len-l-end.ensures) in
    let is : c.index.result.now ≡ link_at (instance_of parts) c.loop-l.l = grind (arith, common_steps) in
    rw (c.in_ok-push.ensures.items, is) (pairs_more (length parts.processes.items) (leads_to (instance_of parts)) c.loop-l.l c.loop-l.pairs.items (link_at (instance_of parts) c.loop-l.l).after (c.requires.indices (AtLink c.loop-l.l) there).1 (λ key. refl) c.loop-l.invariant)

pub of-requires : goal.of-requires
of-requires c =
    let bound : c.len-2.result ≡ length c.args.parts.now.processes.items = omega (arith, c.len-2.ensures) in
    rw (c.as_slice.ensures.value, bound) c.loop-l.invariant.keyed

pub returns : goal.returns
returns c =
    let parts = c.args.parts.now in
    let all : c.loop-l.l ≡ length parts.links.items = omega (arith, c.loop-l.auto.l-end, c.loop-l-test.false, c.len-l-end.ensures) in
    IfOk-weaker c.of.result _ _ (λ groups are. same_lists_of _ _ _ (length parts.processes.items) c.loop-l.l (length parts.links.items) (leads_to (instance_of parts)) all c.loop-l.invariant are) (rw c.as_slice.ensures.value at c.of.ensures)
