use Rattle.instance_reasons.proofs.shared.shared_name.Goals as goal

pub shared_in-requires : goal.shared_in-requires
shared_in-requires c = λ all. (rw c.in-AtNode.is at c.requires) (λ _. all)

pub shared_in-requires-in-AtProcess : goal.shared_in-requires-in-AtProcess
shared_in-requires-in-AtProcess c = λ all. (rw c.in-AtProcess.is at c.requires) (λ _. all)

pub shared_in-requires-in-AtMessage : goal.shared_in-requires-in-AtMessage
shared_in-requires-in-AtMessage c = λ all. (rw c.in-AtMessage.is at c.requires) (λ _. all)

pub unreachable-requires : goal.unreachable-requires
unreachable-requires c = (rw c.in-AtCluster.is at c.requires) tt

pub unreachable-requires-in-AtLink : goal.unreachable-requires-in-AtLink
unreachable-requires-in-AtLink c = (rw c.in-AtLink.is at c.requires) tt
