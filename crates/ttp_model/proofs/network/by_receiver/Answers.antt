use Rattle.std.proofs.Common.{◌≡◌, ◌<◌, length, arith, refl}
use Rattle.std.proofs.lemmas.Grind.{common_steps}
use Rattle.ttp_model.specs.Instance.{message_at}
use Rattle.ttp_model.specs.Parts.{instance_of}
use Rattle.ttp_model.specs.Network.{is_received_by}
use Rattle.ttp_model.specs.declared.error.Place.TheVariants.{AtMessage}
use Rattle.std.proofs.lemmas.Result.{IfOk-weaker}
use Rattle.ttp_model.proofs.NetworkLists.{pairs_first, pairs_more_each, same_lists_of}
use Rattle.ttp_model.proofs.network.by_receiver.Goals as goal

pub loop-m-init : goal.loop-m-init
loop-m-init c = rw c.new-pairs.ensures.items (pairs_first (length c.args.parts.now.processes.items) (is_received_by (instance_of c.args.parts.now)))

pub loop-m-preserved : goal.loop-m-preserved
loop-m-preserved c =
    let parts = c.args.parts.now in
    let there : c.loop-m.m < length parts.messages.items = omega (arith, c.loop-m-test.true, c.len-m-end.ensures) in
    let i = instance_of parts in
    let m = c.loop-m.m in
    let is : c.index-message.result.now ≡ message_at i m = grind (arith, common_steps) in
    rw (c.in_ok-add_receivers.ensures, c.as_slice.ensures, is) (pairs_more_each (length parts.processes.items) (is_received_by i) m c.loop-m.pairs.items (message_at i m).receivers (c.requires.indices (AtMessage m) there).1 (c.requires.receivers_once m there) (λ key. refl) c.loop-m.invariant)

pub of-requires : goal.of-requires
of-requires c =
    let bound : c.len.result ≡ length c.args.parts.now.processes.items = omega (arith, c.len.ensures) in
    rw (c.as_slice-2.ensures.value, bound) c.loop-m.invariant.keyed

pub returns : goal.returns
returns c =
    let parts = c.args.parts.now in
    let all : c.loop-m.m ≡ length parts.messages.items = omega (arith, c.loop-m.auto.m-end, c.loop-m-test.false, c.len-m-end.ensures) in
    IfOk-weaker c.of.result _ _ (λ groups are. same_lists_of _ _ _ (length parts.processes.items) c.loop-m.m (length parts.messages.items) (is_received_by (instance_of parts)) all c.loop-m.invariant are) (rw c.as_slice-2.ensures.value at c.of.ensures)
