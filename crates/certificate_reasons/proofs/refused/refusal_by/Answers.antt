use Rattle.certificate_reasons.proofs.refused.refusal_by.Goals as goal

pub absent_of-requires : goal.absent_of-requires
absent_of-requires c = (rw c.in-NoSuchIndex.is at c.requires).1

pub lacking_of-requires-clause-there : goal.lacking_of-requires-clause-there
lacking_of-requires-clause-there c = (rw c.in-NoPremise.is at c.requires).1.0

pub lacking_of-requires-clause-lacks : goal.lacking_of-requires-clause-lacks
lacking_of-requires-clause-lacks c = (rw c.in-NoPremise.is at c.requires).1.1
