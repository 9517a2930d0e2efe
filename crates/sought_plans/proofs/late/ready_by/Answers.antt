use Rattle.sought_plans.proofs.late.ready_by.Goals as goal

pub le-requires : goal.le-requires
le-requires c = rw c.requires.fits.le c.message_at.ensures.sender
