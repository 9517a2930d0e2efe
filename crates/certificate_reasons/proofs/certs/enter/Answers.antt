-- A branch leads to its children's choices, and a leaf to none.
use Rattle.certificate_reasons.proofs.certs.enter.Goals as goal

pub enter_branch-requires-clause-suits : goal.enter_branch-requires-clause-suits
enter_branch-requires-clause-suits c = rw c.in-Branch.is at c.requires.suits.1

pub returns-in-Branch : goal.returns-in-Branch
returns-in-Branch c = rw c.in-Branch.is c.enter_branch.ensures
