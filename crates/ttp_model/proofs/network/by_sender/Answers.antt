use Rattle.std.proofs.Common.{◌≡◌, ◌<◌, length, arith, refl}
use Rattle.std.proofs.lemmas.Grind.{common_steps}
use Rattle.ttp_model.specs.Instance.{message_at}
use Rattle.ttp_model.specs.Parts.{instance_of}
use Rattle.ttp_model.specs.Network.{is_sent_by}
use Rattle.ttp_model.specs.declared.error.Place.TheVariants.{AtMessage}
use Rattle.std.proofs.lemmas.Result.{IfOk-weaker}
use Rattle.ttp_model.proofs.NetworkLists.{pairs_first, pairs_more, same_lists_of}
use Rattle.ttp_model.proofs.network.by_sender.Goals as goal

pub loop-m-init : goal.loop-m-init
loop-m-init c = rw c.in_ok-pairs.ensures.items (pairs_first (length c.args.parts.now.processes.items) (is_sent_by (instance_of c.args.parts.now)))

pub loop-m-preserved : goal.loop-m-preserved
loop-m-preserved c =
    let parts = c.args.parts.now in
    let there : c.loop-m.m < length parts.messages.items = omega (arith, c.loop-m-test.true, c.len-m-end.ensures) in
    let i = instance_of parts in
    let m = c.loop-m.m in
    let is : c.index-message.result.now ≡ message_at i m = grind (arith, common_steps) in
    rw (c.in_ok-push.ensures.items, is) (pairs_more (length parts.processes.items) (is_sent_by i) m c.loop-m.pairs.items (message_at i m).sender (c.requires.indices (AtMessage m) there).0 (λ key. refl) c.loop-m.invariant)

pub of-requires : goal.of-requires
of-requires c =
    let bound : c.len-2.result ≡ length c.args.parts.now.processes.items = omega (arith, c.len-2.ensures) in
    rw (c.as_slice.ensures.value, bound) c.loop-m.invariant.keyed

pub returns : goal.returns
returns c =
    let parts = c.args.parts.now in
    let all : c.loop-m.m ≡ length parts.messages.items = omega (arith, c.loop-m.auto.m-end, c.loop-m-test.false, c.len-m-end.ensures) in
    IfOk-weaker c.of.result _ _ (λ groups are. same_lists_of _ _ _ (length parts.processes.items) c.loop-m.m (length parts.messages.items) (is_sent_by (instance_of parts)) all c.loop-m.invariant are) (rw c.as_slice.ensures.value at c.of.ensures)
