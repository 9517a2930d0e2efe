use Rattle.std.proofs.Common.{refl, ◌∙◌}
use Rattle.instance_variants.proofs.CutProcesses.{deadline_is}
use Rattle.evidence.proofs.model.variants.only_these_deadlines_are_cut.Goals as goal

pub returns : goal.returns
returns c = rw c.in_ok-other.ensures (λ p inside out.
    deadline_is c.args.instance.now c.args.processes.now c.args.d p inside ∙ (rw out refl))
