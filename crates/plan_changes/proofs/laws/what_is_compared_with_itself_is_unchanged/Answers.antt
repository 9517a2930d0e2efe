use Rattle.plan_changes.proofs.Itself.{changes_text-itself, fates-itself, plan_text-itself}
use Rattle.plan_changes.proofs.laws.what_is_compared_with_itself_is_unchanged.Goals as goal

pub returns-clause-unchanged : goal.returns-clause-unchanged
returns-clause-unchanged c = λ p. record { units = fates-itself p; plan = plan_text-itself p }

pub returns-clause-text : goal.returns-clause-text
returns-clause-text c = λ p. changes_text-itself p
