use Rattle.certificate_reasons.proofs.nodes.branch_reason.Goals as goal

pub child_count-requires : goal.child_count-requires
child_count-requires c = let wrong = rw c.in-ChildCount.is at c.requires in (wrong.0, wrong.1.0, wrong.1.1)
