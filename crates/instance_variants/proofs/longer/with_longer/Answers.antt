use Rattle.std.proofs.Common.{◌∙◌}
use Rattle.instance_variants.proofs.LongerRuns.{tables_keep_rules}
use Rattle.instance_variants.proofs.longer.with_longer.Goals as goal

pub built-requires : goal.built-requires
built-requires c =
    tables_keep_rules c.args.instance.now c.args.processes.now c.args.scale c.args.x _ _ _ _ _ c.requires
    c.cluster-cluster.ensures.value
    (c.in_ok-nodes.ensures ∙ c.nodes.ensures.value)
    c.in_ok-processes.ensures
    (c.in_ok-links.ensures.items ∙ c.links.ensures.value)
    (c.in_ok-messages.ensures ∙ c.messages.ensures.value)
