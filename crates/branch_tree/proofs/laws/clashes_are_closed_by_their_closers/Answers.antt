use Rattle.branch_tree.proofs.ClosedClashes.{clash_closed}
use Rattle.branch_tree.proofs.laws.clashes_are_closed_by_their_closers.Goals as goal

pub returns : goal.returns
returns c = λ i c goal clash w ok done. clash_closed i c goal w ok done clash
