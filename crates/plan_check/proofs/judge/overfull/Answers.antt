use Rattle.std.proofs.Common.{ap, ◌∙◌}
use Rattle.ttp_model.specs.declared.parts.Cluster.{Cluster}
use Rattle.plan_check.proofs.OverfullFrames.{told_of_two}
use Rattle.plan_check.proofs.judge.overfull.Goals as goal

pub returns-else-cluster-eq1 : goal.returns-else-cluster-eq1
returns-else-cluster-eq1 c =
    let i = c.args.instance.now in
    let doubled = told_of_two i c.args.plan.now c.args.m c.args.c c.requires.before c.requires.message c.requires.channel c.cluster.ensures.instance
    (λ one. c.if-cluster-eq1.false (ap (λ (k : Cluster). k.channels) c.cluster.ensures.value ∙ one)) in
    rw (c.source_of-n.ensures.value, c.as_slice.ensures) doubled
