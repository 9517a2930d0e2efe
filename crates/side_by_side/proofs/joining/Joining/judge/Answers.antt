use Rattle.std.proofs.Common.{◌≡◌, subst}
use Rattle.ttp_model.specs.declared.step.Leaf.{Leaf}
use Rattle.tt_choice.specs.Choice.{bare}
use Rattle.tt_infer.specs.Leaves.{ClosesLeaf}
use Rattle.certificate.specs.declared.node.Node.TheVariants as node
use Rattle.tree_check.specs.Seen.{TellsNode}
use Rattle.side_by_side.proofs.OnePlace.{has_leaf, tells_leaf}
use Rattle.side_by_side.proofs.joining.Joining.judge.Goals as goal

pub judge_leaf-requires : goal.judge_leaf-requires
judge_leaf-requires c = rw (c.requires.room, c.choice.ensures) c.requires.choice

pub told-requires : goal.told-requires
told-requires c =
    let i = c.args.self.now.instance.now in
    let ch = bare c.args.self.now.walk.choice in
    let leaf = c.requires.at.0 in
    let there = c.requires.at.1 in
    let same : c.leaf_at-leaf.result.now ≡ leaf =
    c.leaf_at-leaf.ensures leaf (has_leaf i c.args.self.now.certs.now c.args.spot.certificate c.args.spot.node ch leaf there) in
    let tells = rw (c.requires.room, c.choice.ensures, c.as_slice.ensures.value) at c.in-Err.ensures.err in (
      i,
      ch,
      tells_leaf i c.args.self.now.certs.now c.args.spot.certificate c.args.spot.node ch leaf c.in-Err.fault there
          (subst (λ (l : Leaf). TellsNode i 0 ch (node.Leaf l) 0 c.in-Err.fault) same tells),
    )

pub returns-in-Ok-clause-closes : goal.returns-in-Ok-clause-closes
returns-in-Ok-clause-closes c = λ leaf there.
    let i = c.args.self.now.instance.now in
    let ch = bare c.args.self.now.walk.choice in
    let same : c.leaf_at-leaf.result.now ≡ leaf =
    c.leaf_at-leaf.ensures leaf (has_leaf i c.args.self.now.certs.now c.args.spot.certificate c.args.spot.node ch leaf there) in
    let closes = rw (c.requires.room, c.choice.ensures, c.as_slice.ensures.value) at c.in-Ok.ensures.closes in
    subst (ClosesLeaf i ch) same closes

pub returns-in-Err-clause-fault : goal.returns-in-Err-clause-fault
returns-in-Err-clause-fault c =
    let i = c.args.self.now.instance.now in
    let ch = bare c.args.self.now.walk.choice in
    let leaf = c.requires.at.0 in
    let there = c.requires.at.1 in
    let same : c.leaf_at-leaf.result.now ≡ leaf =
    c.leaf_at-leaf.ensures leaf (has_leaf i c.args.self.now.certs.now c.args.spot.certificate c.args.spot.node ch leaf there) in
    let tells = rw (c.requires.room, c.choice.ensures, c.as_slice.ensures.value) at c.in-Err.ensures.err in
    c.told.ensures i ch
    (tells_leaf i c.args.self.now.certs.now c.args.spot.certificate c.args.spot.node ch leaf c.in-Err.fault there
    (subst (λ (l : Leaf). TellsNode i 0 ch (node.Leaf l) 0 c.in-Err.fault) same tells))
