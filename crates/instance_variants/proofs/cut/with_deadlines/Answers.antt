use Rattle.std.proofs.Common.{◌∙◌}
use Rattle.instance_variants.proofs.CutRules.{tables_keep_rules}
use Rattle.instance_variants.proofs.cut.with_deadlines.Goals as goal

pub built-requires : goal.built-requires
built-requires c =
    tables_keep_rules c.args.instance.now c.args.processes.now c.args.d _ _ _ _ _ c.nodes.ensures.instance c.requires
    c.cluster-cluster.ensures.value
    (c.in_ok-nodes.ensures ∙ c.nodes.ensures.value)
    c.in_ok-processes.ensures
    (c.in_ok-links.ensures.items ∙ c.links.ensures.value)
    (c.in_ok-messages.ensures ∙ c.messages.ensures.value)
