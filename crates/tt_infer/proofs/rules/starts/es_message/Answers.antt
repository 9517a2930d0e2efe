use Rattle.tt_infer.proofs.rules.starts.es_message.Goals as goal

pub start_from-requires : goal.start_from-requires
start_from-requires c = rw c.requires.fits.es (rw c.instance.ensures at (c.receives.ensures.inside c.if-not-receives.false))
