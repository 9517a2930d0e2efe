use Rattle.sought_plans.proofs.SlotsAfter.{setting_bare}
use Rattle.sought_plans.proofs.setting.Setting.set_to.Goals as goal

pub invariant_of-result : goal.invariant_of-result
invariant_of-result c = rw (c.in_ok-slots.ensures, c.as_slice.ensures.value, c.in_ok-set_to.ensures, c.choice.ensures.value, ← c.before-2.view_is) (setting_bare _ _ c.before-2.invariant)
