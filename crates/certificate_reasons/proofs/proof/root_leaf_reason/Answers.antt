use Rattle.certificate_reasons.proofs.proof.root_leaf_reason.Goals as goal

pub leaf_reason-requires-clause-closes : goal.leaf_reason-requires-clause-closes
leaf_reason-requires-clause-closes c = rw c.in_ok-choice.ensures.value c.requires

pub returns : goal.returns
returns c = rw c.in_ok-choice.ensures.value at c.leaf_reason.ensures
