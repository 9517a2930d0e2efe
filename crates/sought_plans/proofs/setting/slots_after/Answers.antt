use Rattle.std.proofs.Common.{List, subst, sym, ◌∙◌}
use Rattle.std.proofs.lemmas.Result.{IfOk-weaker}
use Rattle.tt_choice.specs.Choice.{Choice}
use Rattle.sought_plans.specs.declared.slots.SlotTimes.{SlotTimes}
use Rattle.sought_plans.specs.Setting.{Setting, AreSlots}
use Rattle.sought_plans.proofs.SlotsAfter.{slots_kept}
use Rattle.sought_plans.proofs.setting.slots_after.Goals as goal

pub returns-in-Before : goal.returns-in-Before
returns-in-Before c =
    let before = c.args.before.now in
    let slots = c.before-2.inside.slots.items in
    let were = subst (λ (s : Setting). AreSlots s.instance s.choice slots) c.before-2.view_is c.before-2.invariant.slots in
    let are = slots_kept before.instance before.choice c.args.decision slots c.in-Before.is were in
    let here = subst (λ (choice : Choice). AreSlots before.instance choice slots) (sym c.requires.after) are in
    IfOk-weaker c.refilled.result _ _ (λ made is. subst (λ (all : List SlotTimes). AreSlots before.instance c.args.choice.now all) (sym (is ∙ c.as_slice.ensures.value)) here) c.refilled.ensures
