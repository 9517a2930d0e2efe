use Rattle.plan_commands.proofs.LossLists.{malformed_at, spelled_next}
use Rattle.plan_commands.proofs.losses.losses_in.Goals as goal

pub returns-in_default : goal.returns-in_default
returns-in_default c =
    malformed_at c.args.words.now _ _ _ c.loop-k-test.true c.loop-k.invariant _ c.as_bytes.ensures.value c.in_default.ensures.none

pub loop-k-preserved : goal.loop-k-preserved
loop-k-preserved c =
    rw c.in_ok-push.ensures.items (spelled_next c.args.words.now _ _ _ c.loop-k-test.true c.loop-k.invariant _ c.as_bytes.ensures.value
    c.in-Some.loss c.in-Some.ensures.some)
