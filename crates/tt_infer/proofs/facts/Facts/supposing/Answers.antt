use Rattle.std.proofs.Common.{subst, ◌∙◌}
use Rattle.tt_choice.specs.Choice.{IsChoice}
use Rattle.sought_plans.specs.Setting.{Setting}
use Rattle.tt_infer.specs.Setting.{inference}
use Rattle.tt_infer.proofs.Supposed.{supposed_inference}
use Rattle.tt_infer.proofs.facts.Facts.supposing.Goals as goal

pub invariant_of-result : goal.invariant_of-result
invariant_of-result c =
    let s = inference c.before-2.inside.setting c.before-2.inside.known in
    let pair = rw (← c.before-2.view_is) at c.requires in
    let made = c.setting.view_is ∙ c.in_ok-setting.ensures in
    let choice = subst (λ (t : Setting). IsChoice t.instance t.choice) made c.setting.invariant.choice in
    let all = supposed_inference s c.args.p c.args.q c.before-2.invariant pair choice in
    rw (c.go_first.ensures, c.in_ok-known.ensures, c.in_ok-setting.ensures) all
