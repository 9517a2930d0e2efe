use Rattle.std.proofs.Common.{[]}
use Rattle.tt_choice.proofs.Trail.{IsChoice-keeping}
use Rattle.sought_plans.proofs.setting.Setting.turned.Goals as goal

pub slots_of-requires : goal.slots_of-requires
slots_of-requires c = record { of = rw (c.in_ok-set_to.ensures) (IsChoice-keeping _ _ [] (rw (← c.self.view_is) at c.requires.of)) }

pub invariant_of-result : goal.invariant_of-result
invariant_of-result c = record {
  instance = c.self.invariant.instance;
  choice = rw (c.in_ok-set_to.ensures) (IsChoice-keeping _ _ [] (rw (← c.self.view_is) at c.requires.of));
  slots = c.in_ok-slots.ensures;
}
