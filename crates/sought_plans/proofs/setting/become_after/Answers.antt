use Rattle.std.proofs.Common.{[], refl, ◌∙◌}
use Rattle.tt_choice.proofs.Trail.{IsChoice-keeping}
use Rattle.sought_plans.proofs.setting.become_after.Goals as goal

pub change-requires-clause-of : goal.change-requires-clause-of
change-requires-clause-of c = rw (c.in_ok-set_to.ensures, c.choice.ensures.value, c.instance-instance.ensures) (IsChoice-keeping _ _ [] c.choice.ensures.of)

pub slots_after-requires-clause-of : goal.slots_after-requires-clause-of
slots_after-requires-clause-of c = rw c.instance-instance.ensures at c.in_ok-change.ensures.choice

pub slots_after-requires-clause-after : goal.slots_after-requires-clause-after
slots_after-requires-clause-after c = c.in_ok-change.ensures.ok ∙ rw (c.instance-instance.ensures, c.in_ok-set_to.ensures, c.choice.ensures.value) refl
