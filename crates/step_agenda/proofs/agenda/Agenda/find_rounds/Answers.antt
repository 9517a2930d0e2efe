use Rattle.step_agenda.proofs.agenda.Agenda.find_rounds.Goals as goal

pub lo-first-requires : goal.lo-first-requires
lo-first-requires c =
    let inside = rw c.instance.ensures.value at c.messages_of-m-items.ensures.inside in
    inside c.loop-m.m-index 0 c.loop-m-test.true
