use Rattle.planner.proofs.AnswerVersions.{onward_allows}
use Rattle.solve_command.proofs.onward.solved_on.Goals as goal

pub returns-in-Ok-answer_text-clause-printable : goal.returns-in-Ok-answer_text-clause-printable
returns-in-Ok-answer_text-clause-printable g c = onward_allows _ _ _ _ _ _ _ c.nodes-nodes.ensures.instance c.in-Ok.ensures.answer
