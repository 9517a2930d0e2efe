use Rattle.sought_plans.proofs.late.could_be_earlier.Goals as goal

pub bytes_in_frame-requires-clause-message : goal.bytes_in_frame-requires-clause-message
bytes_in_frame-requires-clause-message c = rw c.instance-instance.ensures c.requires.message

pub start_least-requires : goal.start_least-requires
start_least-requires c = rw c.instance-instance.ensures at c.source_of-n.ensures.inside

pub bytes_in_frame-requires-clause-fits : goal.bytes_in_frame-requires-clause-fits
bytes_in_frame-requires-clause-fits c = rw c.instance-instance.ensures c.requires.fits

pub ready_by-requires-clause-message : goal.ready_by-requires-clause-message
ready_by-requires-clause-message c = rw c.instance-instance.ensures c.requires.message

pub ready_by-requires-clause-fits : goal.ready_by-requires-clause-fits
ready_by-requires-clause-fits c = rw c.instance-instance.ensures c.requires.fits
