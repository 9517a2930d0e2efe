use Rattle.std.proofs.Common.{ap, ◌∙◌}
use Rattle.instance_variants.specs.Within.{within_cluster}
use Rattle.instance_variants.proofs.WithinPlans.{tables_keep_rules}
use Rattle.instance_variants.proofs.within.with_horizon.Goals as goal

pub built-requires : goal.built-requires
built-requires c =
    tables_keep_rules c.args.instance.now c.args.d _ _ _ _ _ c.nodes.ensures.instance c.requires
    (c.within_cluster-cluster.ensures ∙ ap (within_cluster c.args.d) c.cluster.ensures.value)
    (c.in_ok-nodes.ensures ∙ c.nodes.ensures.value)
    (c.in_ok-processes.ensures ∙ c.processes.ensures.value)
    (c.in_ok-links.ensures.items ∙ c.links.ensures.value)
    (c.in_ok-messages.ensures ∙ c.messages.ensures.value)
