use Rattle.sought_plans.proofs.setting.Setting.new.Goals as goal

pub invariant_of-result : goal.invariant_of-result
invariant_of-result c = record {
  instance = c.nodes-nodes.ensures.instance;
  choice = rw c.in_ok-whole_copy.ensures c.requires.of;
  slots = rw c.in_ok-whole_copy.ensures c.in_ok-slots.ensures;
}
