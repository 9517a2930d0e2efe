use Rattle.step_agenda.proofs.closings.set_to_messages.Goals as goal

pub bytes_counted-bytes-requires : goal.bytes_counted-bytes-requires
bytes_counted-bytes-requires c =
    let inside = rw c.instance.ensures.value at c.messages_of-m-items.ensures.inside in
    inside c.loop-m.m-index 0 c.loop-m-test.true
