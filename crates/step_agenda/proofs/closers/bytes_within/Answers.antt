use Rattle.step_agenda.proofs.closers.bytes_within.Goals as goal

pub bytes_counted-requires : goal.bytes_counted-requires
bytes_counted-requires c =
    let inside = rw c.instance.ensures.value at c.messages_of-m-items.ensures.inside in
    inside c.loop-m.m-index 0 c.loop-m-test.true
