use Rattle.std.proofs.Common.{refl}
use Rattle.std.proofs.lemmas.Bool.{false≢true}
use Rattle.plan_commands.proofs.AnswerLines.{bounds_found, no_bounds, wrong_low}
use Rattle.plan_commands.proofs.front.front_of_bounds.Goals as goal

pub returns-in_err-low : goal.returns-in_err-low
returns-in_err-low c = rw c.from_residual.ensures (no_bounds _ c.in_err-low.ensures.value)

pub returns-then-is_number : goal.returns-then-is_number
returns-then-is_number c = bounds_found _ _ _ c.in_ok-low.ensures.value (c.if-is_number.ensures.0 refl) _ c.front_of_best.ensures

pub returns-else-is_number : goal.returns-else-is_number
returns-else-is_number c = wrong_low _ _ _ c.in_ok-low.ensures.value (λ is. false≢true (c.if-is_number.ensures.1 is))
