use Rattle.std.proofs.lemmas.Result.{on_ok_weaker}
use Rattle.tt_choice.proofs.Trail.{IsChoice-keeping}
use Rattle.tt_choice.proofs.choice.Choice.decide.Goals as goal

pub returns-clause-choice : goal.returns-clause-choice
returns-clause-choice c =
    let made = rw (← c.self-2.view_is) at c.change-made.ensures.choice in
    on_ok_weaker c.change-made.result (IsChoice-keeping _ _ c.if-is_ok.kept.items) made
