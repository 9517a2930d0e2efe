use Rattle.std.proofs.Common.{arith}
use Rattle.ttp_model.specs.declared.fault.PlanFault.TheVariants.{BrokenLink}
use Rattle.evidence.proofs.Judged.{not_told}
use Rattle.evidence.proofs.model.plans.link_without_a_gap.Goals as goal

pub returns : goal.returns
returns c = λ same. not_told c.args.instance.now c.args.plan.now _ (BrokenLink c.args.l) c.check.ensures.err (λ broken. broken.1.fails (omega (arith, same)))
