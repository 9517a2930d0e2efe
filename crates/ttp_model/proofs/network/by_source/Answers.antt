use Rattle.std.proofs.Common.{◌≡◌, ◌<◌, length, arith, refl}
use Rattle.std.proofs.lemmas.Grind.{common_steps}
use Rattle.ttp_model.specs.Instance.{message_at, source_of}
use Rattle.ttp_model.specs.Parts.{instance_of}
use Rattle.ttp_model.specs.Network.{is_message_of}
use Rattle.ttp_model.specs.declared.error.Place.TheVariants.{AtMessage, AtProcess}
use Rattle.std.proofs.lemmas.Result.{IfOk-weaker}
use Rattle.ttp_model.proofs.NetworkLists.{pairs_first, pairs_more, same_lists_of}
use Rattle.ttp_model.proofs.network.by_source.Goals as goal

pub loop-m-init : goal.loop-m-init
loop-m-init c = rw c.in_ok-pairs.ensures.items (pairs_first (length c.args.parts.now.nodes.items) (is_message_of (instance_of c.args.parts.now)))

pub loop-m-preserved : goal.loop-m-preserved
loop-m-preserved c =
    let parts = c.args.parts.now in
    let there : c.loop-m.m < length parts.messages.items = omega (arith, c.loop-m-test.true, c.len-m-end.ensures) in
    let i = instance_of parts in
    let m = c.loop-m.m in
    let is : c.index-message.result.now ≡ message_at i m = grind (arith, common_steps) in
    let sender = (c.requires.indices (AtMessage m) there).0 in
    let node : c.index-sender.result.now.node ≡ source_of i m = grind (arith, common_steps) in
    rw (c.in_ok-push.ensures.items, node) (pairs_more (length parts.nodes.items) (is_message_of i) m c.loop-m.pairs.items (source_of i m) (c.requires.indices (AtProcess (message_at i m).sender) sender) (λ key. refl) c.loop-m.invariant)

pub of-requires : goal.of-requires
of-requires c =
    let bound : c.len-2.result ≡ length c.args.parts.now.nodes.items = omega (arith, c.len-2.ensures) in
    rw (c.as_slice.ensures.value, bound) c.loop-m.invariant.keyed

pub returns : goal.returns
returns c =
    let parts = c.args.parts.now in
    let all : c.loop-m.m ≡ length parts.messages.items = omega (arith, c.loop-m.auto.m-end, c.loop-m-test.false, c.len-m-end.ensures) in
    IfOk-weaker c.of.result _ _ (λ groups are. same_lists_of _ _ _ (length parts.nodes.items) c.loop-m.m (length parts.messages.items) (is_message_of (instance_of parts)) all c.loop-m.invariant are) (rw c.as_slice.ensures.value at c.of.ensures)

pub index-sender-requires : goal.index-sender-requires
index-sender-requires c =
    let i = instance_of c.args.parts.now in
    let m = c.loop-m.m in
    let there : m < length c.args.parts.now.messages.items = omega (arith, c.loop-m-test.true, c.len-m-end.ensures) in
    let is : c.index-message.result.now ≡ message_at i m = grind (arith, common_steps) in
    let sender = (c.requires.indices (AtMessage m) there).0 in
    rw is (omega (arith, sender))
