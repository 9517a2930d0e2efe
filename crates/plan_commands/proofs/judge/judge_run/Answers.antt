use Rattle.plan_commands.proofs.Judging.{judged_of_readers, unbounded_of_readers, unstanding_of_readers}
use Rattle.plan_commands.proofs.judge.judge_run.Goals as goal

pub returns-in-Err-clause-answer : goal.returns-in-Err-clause-answer
returns-in-Err-clause-answer g c = unstanding_of_readers _ _ _ _ _ c.in-Err.fault c.in-Err.ensures.judged

pub returns-in-Ok-read_any_bound-clause-answer : goal.returns-in-Ok-read_any_bound-clause-answer
returns-in-Ok-read_any_bound-clause-answer g c =
    judged_of_readers _ _ _ _ _ c.in-Ok.standing c.in-Ok-read_any_bound.low c.judgement_of.result _ _ c.in-Ok.ensures.judged
    c.in-Ok-read_any_bound.ensures.judged c.judgement_of.ensures c.write_judgement.ensures

pub returns-clause-answer : goal.returns-clause-answer
returns-clause-answer g c =
    unbounded_of_readers _ _ _ _ _ c.in-Ok.standing c.in-Err-read_any_bound.fault c.in-Ok.ensures.judged c.in-Err-read_any_bound.ensures.judged
