use Rattle.std.proofs.Common.{map, ap, ◌∙◌}
use Rattle.instance_variants.specs.Later.{later_cluster, later_process}
use Rattle.instance_variants.proofs.LaterRules.{tables_keep_rules}
use Rattle.instance_variants.proofs.later.with_later.Goals as goal

pub built-requires : goal.built-requires
built-requires c =
    tables_keep_rules c.args.instance.now c.args.x _ _ _ _ _ c.nodes.ensures.instance
    (c.later_cluster-cluster.ensures ∙ ap (later_cluster c.args.x) c.cluster.ensures.value)
    (c.in_ok-nodes.ensures ∙ c.nodes.ensures.value)
    (c.in_ok-processes.ensures ∙ ap (map (later_process c.args.x)) c.processes.ensures.value)
    (c.in_ok-links.ensures.items ∙ c.links.ensures.value)
    (c.in_ok-messages.ensures ∙ c.messages.ensures.value)
