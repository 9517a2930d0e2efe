use Rattle.std.proofs.Common.{arith, inl}
use Rattle.ttp_model.specs.declared.fault.PlanFault.TheVariants.{Overlap}
use Rattle.evidence.proofs.Judged.{not_told}
use Rattle.evidence.proofs.model.plans.processes_that_touch.Goals as goal

pub returns : goal.returns
returns c = λ same. not_told c.args.instance.now c.args.plan.now _ (Overlap c.args.p c.args.q) c.check.ensures.err
    (λ broken. broken.1.overlap (λ node. inl (omega (arith, same))))
