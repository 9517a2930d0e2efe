use Rattle.std.proofs.Common.{◌-◌}
use Rattle.plan_questions.proofs.MarginCuts.{valid_as_is}
use Rattle.plan_questions.proofs.margins.margin_cut.own_lack.Goals as goal

pub own_margin-requires : goal.own_margin-requires
own_margin-requires c =
    valid_as_is c.args.instance.now c.args.processes.now c.args.scale c.args.plan.now (c.args.most - c.args.number) c.requires
