use Rattle.sought_plans.proofs.setting.Setting.after.Goals as goal

pub invariant_of-result : goal.invariant_of-result
invariant_of-result c = record {
  instance = rw (c.instance-instance.ensures, ← c.before-2.view_is) c.before-2.invariant.instance;
  choice = rw c.instance-instance.ensures c.in-Ok.ensures.of;
  slots = rw c.instance-instance.ensures c.in-Ok.ensures.slots;
}
