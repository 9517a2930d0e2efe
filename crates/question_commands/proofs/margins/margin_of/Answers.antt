use Rattle.std.proofs.lemmas.Result.{err_from_is_err_and}
use Rattle.question_commands.proofs.Meaning.{meant_some, meant_there}
use Rattle.question_commands.proofs.MarginAnswers.{margin_by_words, unmeant}
use Rattle.question_commands.proofs.margins.margin_of.Goals as goal

pub margin_by-requires-clause-there : goal.margin_by-requires-clause-there
margin_by-requires-clause-there g c = λ κs alive. rw c.as_slice.ensures.value (meant_there _ _ _ c.in_ok-processes.ensures)

pub margin_by-requires-clause-some : goal.margin_by-requires-clause-some
margin_by-requires-clause-some g c = λ κs alive. rw c.as_slice.ensures.value (meant_some _ _ _ c.nodes-nodes.ensures.instance c.in_ok-processes.ensures)

pub returns : goal.returns
returns g c = margin_by_words _ _ _ _ _ c.in_ok-processes.ensures _ (rw c.as_slice.ensures.value at c.margin_by.ensures)

pub returns-in_err-processes : goal.returns-in_err-processes
returns-in_err-processes g c =
    let p = err_from_is_err_and c.from_residual.result c.from_residual.ensures.1 in
    rw (p.1, p.2) (unmeant _ _ _ c.in_err-processes.ensures)
