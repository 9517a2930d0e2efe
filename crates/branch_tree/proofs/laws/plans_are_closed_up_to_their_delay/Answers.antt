use Rattle.branch_tree.proofs.ClosedClashes.{plan_closed}
use Rattle.branch_tree.proofs.laws.plans_are_closed_up_to_their_delay.Goals as goal

pub returns : goal.returns
returns c = λ i c goal plan w ok done. plan_closed i c goal w ok done plan
