use Rattle.tt_infer.proofs.rules.ends.le_message.Goals as goal

pub end_until-requires : goal.end_until-requires
end_until-requires c = rw c.requires.fits.le (rw c.instance-instance.ensures at c.message_at.ensures.sender)

pub message_at-requires : goal.message_at-requires
message_at-requires c = rw c.instance-instance.ensures (rw c.instance.ensures at (c.receives.ensures.is.0 c.if-not-receives.false)).0
