use Rattle.std.proofs.Common.{refl, ap, ◌∙◌}
use Rattle.certificate.specs.declared.node.Node.TheVariants as node
use Rattle.planner.proofs.replay.Replay.leave.Goals as goal

pub returns : goal.returns
returns c = record {
  piece = record { name = c.in_ok-name.name; node = node.Leaf c.in_ok-copy.copy };
  name = c.in_ok-name.ensures ∙ c.name.ensures;
  node_is = ap node.Leaf c.in_ok-copy.ensures;
  pieces = refl;
  next = refl;
  tasks = c.in_ok-push-2.ensures.items;
  leaves = c.in_ok-push.ensures.items;
  aim = refl;
}
