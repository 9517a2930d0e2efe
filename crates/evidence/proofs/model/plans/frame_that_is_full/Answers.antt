use Rattle.ttp_model.specs.declared.fault.PlanFault.TheVariants.{Overfull, OverfullOn}
use Rattle.evidence.proofs.Judged.{not_told, just_fits}
use Rattle.evidence.proofs.model.plans.frame_that_is_full.Goals as goal

pub returns-clause-alone : goal.returns-clause-alone
returns-clause-alone c = λ full. not_told c.args.instance.now c.args.plan.now _ (Overfull c.args.n c.args.r) c.check.ensures.err
    (λ broken. just_fits c.args.instance.now c.args.plan.now 1 c.args.n c.args.r 0 full broken.1)

pub returns-clause-doubled : goal.returns-clause-doubled
returns-clause-doubled c = λ k full. not_told c.args.instance.now c.args.plan.now _ (OverfullOn c.args.n c.args.r k) c.check.ensures.err
    (λ broken. just_fits c.args.instance.now c.args.plan.now 2 c.args.n c.args.r k full broken.1)
