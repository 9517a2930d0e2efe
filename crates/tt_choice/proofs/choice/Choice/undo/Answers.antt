use Rattle.tt_choice.proofs.Trail.{undone}
use Rattle.tt_choice.proofs.choice.Choice.undo.Goals as goal

pub returns-clause-back : goal.returns-clause-back
returns-clause-back c = rw (← c.self.view_is) (undone _ _ _ _ c.take_last-reversal.ensures.items c.take_back.ensures)
