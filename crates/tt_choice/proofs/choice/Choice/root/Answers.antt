use Rattle.tt_choice.proofs.Root.{IsChoice-root, IsIn-root}
use Rattle.tt_choice.proofs.choice.Choice.root.Goals as goal

pub returns-clause-choice : goal.returns-clause-choice
returns-clause-choice c = rw c.in_ok-choice.ensures (IsChoice-root _ c.nodes-nodes.ensures.instance)

pub returns-clause-plans : goal.returns-clause-plans
returns-clause-plans c = rw c.in_ok-choice.ensures (λ plan v. IsIn-root _ plan c.nodes-nodes.ensures.instance v)
