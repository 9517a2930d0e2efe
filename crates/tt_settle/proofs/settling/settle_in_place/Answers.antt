use Rattle.std.proofs.Common.{arith}
use Rattle.ttp_model.proofs.Reached.{leads_on}
use Rattle.tt_settle.specs.Settling.{RestsInTime}
use Rattle.tt_settle.proofs.OneNumber.{whole_weight_falls}
use Rattle.tt_settle.proofs.Trying.{tried_valid, tried_delay, tried_leads}
use Rattle.tt_settle.proofs.settling.settle_in_place.Goals as goal

pub loop-plan-init : goal.loop-plan-init
loop-plan-init c =
    let first = c.go_earlier-plan.result in
    (tried_valid c.args.instance.now c.args.plan (RestsInTime c.args.instance.now) first.0 first.1 c.requires c.go_earlier-plan.ensures, tried_delay c.args.instance.now c.args.plan (RestsInTime c.args.instance.now) first.0 first.1 c.go_earlier-plan.ensures, tried_leads c.args.instance.now c.args.plan (RestsInTime c.args.instance.now) first.0 first.1 c.go_earlier-plan.ensures)

pub loop-plan-preserved : goal.loop-plan-preserved
loop-plan-preserved c =
    let better = c.try_moves-next.ensures.better c.if-not-moved.false in
    (better.valid, omega (arith, better.delay, c.loop-plan.invariant.1), leads_on c.args.instance.now c.args.plan c.loop-plan.plan c.try_moves-next.result.0 c.loop-plan.invariant.2 better.leads)

pub loop-plan-smaller : goal.loop-plan-smaller
loop-plan-smaller c = whole_weight_falls c.args.instance.now c.loop-plan.plan c.try_moves-next.result.0 (c.try_moves-next.ensures.better c.if-not-moved.false).lighter
