use Rattle.std.proofs.Common.{arith}
use Rattle.ttp_model.specs.declared.fault.PlanFault.TheVariants.{TooEarly}
use Rattle.evidence.proofs.Judged.{not_told}
use Rattle.evidence.proofs.model.plans.start_past_its_release.Goals as goal

pub returns : goal.returns
returns c = λ past. not_told c.args.instance.now c.args.plan.now _ (TooEarly c.args.p) c.check.ensures.err (λ first. first.1.fails (omega (arith, past)))
