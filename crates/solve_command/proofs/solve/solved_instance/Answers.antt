use Rattle.planner.proofs.AnswerVersions.{answer_allows}
use Rattle.solve_command.proofs.solve.solved_instance.Goals as goal

pub returns-in-Ok-answer_text-clause-printable : goal.returns-in-Ok-answer_text-clause-printable
returns-in-Ok-answer_text-clause-printable g c = answer_allows _ _ _ _ c.nodes-nodes.ensures.instance c.in-Ok.ensures.answer
