use Rattle.std.proofs.lemmas.Bool.{both_ways}
use Rattle.step_logs.proofs.required.required_steps.Goals as goal

pub returns-clause-complete : goal.returns-clause-complete
returns-clause-complete c = λ done. absurd (both_ways _ c.if-is_complete.false (c.is_complete.ensures.1 done))

pub returns-then-is_complete-clause-chain : goal.returns-then-is_complete-clause-chain
returns-then-is_complete-clause-chain c = c.in_ok-steps.ensures.chain
