use Rattle.std.proofs.Common.{refl}
use Rattle.std.proofs.lemmas.Bool.{false≢true}
use Rattle.plan_commands.proofs.AnswerLines.{no_stopped, stopped_found, wrong_why}
use Rattle.plan_commands.proofs.front.front_of_stopped.Goals as goal

pub returns-in_err-why : goal.returns-in_err-why
returns-in_err-why c = rw c.from_residual.ensures (no_stopped _ c.in_err-why.ensures.value)

pub returns-then-is_why : goal.returns-then-is_why
returns-then-is_why c = stopped_found _ _ _ c.in_ok-why.ensures.value (c.if-is_why.ensures.0 refl) _ c.front_of_bounds.ensures

pub returns-else-is_why : goal.returns-else-is_why
returns-else-is_why c = wrong_why _ _ _ c.in_ok-why.ensures.value (λ is. false≢true (c.if-is_why.ensures.1 is))
