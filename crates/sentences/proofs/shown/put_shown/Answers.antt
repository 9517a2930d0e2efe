use Rattle.sentences.proofs.Growing.{gains_more, gains_none}
use Rattle.sentences.proofs.shown.put_shown.Goals as goal

pub loop-byte-init : goal.loop-byte-init
loop-byte-init c = gains_none _

pub loop-byte-preserved : goal.loop-byte-preserved
loop-byte-preserved c = gains_more _ _ _ c.loop-byte.invariant c.in_ok-put_byte.ensures
