use Rattle.step_logs.proofs.journal.Journal.try_again.Goals as goal

pub returns-in_ok-push-clause-sharper : goal.returns-in_ok-push-clause-sharper
returns-in_ok-push-clause-sharper c = λ holds. rw (← c.self-2.view_is) at (c.in_ok-sharper.ensures.sharper holds)

pub returns-else-sharper-clause-sharper : goal.returns-else-sharper-clause-sharper
returns-else-sharper-clause-sharper c = c.in_ok-sharper.ensures.sharper

pub returns-in_ok-push-clause-advances : goal.returns-in_ok-push-clause-advances
returns-in_ok-push-clause-advances c = rw (← c.self-2.view_is) at c.append_again.ensures.advances

pub returns-in_ok-push-clause-same : goal.returns-in_ok-push-clause-same
returns-in_ok-push-clause-same c = λ fails. rw (← c.self-2.view_is) at (c.in_ok-sharper.ensures.same fails)
