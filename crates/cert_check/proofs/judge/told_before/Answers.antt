use Rattle.cert_check.proofs.Runs.{text_read, text_unread}
use Rattle.cert_check.proofs.judge.told_before.Goals as goal

pub returns-in-Err : goal.returns-in-Err
returns-in-Err c =
    rw c.in-Cert.is
    (text_unread c.args.leaves.now c.loop-k.k c.index-leaves-k.result c.loop-k-test.true c.index-leaves-k.is c.in-Cert.field-0 c.in-Err.text
    c.loop-k.invariant (rw c.as_slice.ensures.value at c.in-Err.ensures))

pub loop-k-preserved : goal.loop-k-preserved
loop-k-preserved c =
    text_read c.args.leaves.now c.loop-k.k c.index-leaves-k.result c.loop-k-test.true c.index-leaves-k.is c.in_default-read_steps.field-0.items
    c.loop-k.invariant (rw c.as_slice.ensures.value at c.in_default-read_steps.ensures)
