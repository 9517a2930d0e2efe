use Rattle.explain_command.proofs.instances.told_of.Goals as goal

pub reason_of-requires : goal.reason_of-requires
reason_of-requires c = c.requires.again.has_fault
