use Rattle.instance_variants.specs.Grown.{alone}
use Rattle.instance_variants.proofs.GrownPlans.{alone_within, grown_lawful, leaves_windows, valid_allows, within_alone, within_valid}
use Rattle.plan_sheets.proofs.laws.slack_is_exact.Goals as goal

pub returns-clause-at_once : goal.returns-clause-at_once
returns-clause-at_once c = λ i plan growth wi w. (valid_allows i growth wi plan w, within_valid i growth wi plan w)

pub returns-clause-alone : goal.returns-clause-alone
returns-clause-alone c = λ i plan p ticks wi w inside.
    (λ v. within_alone i plan p ticks inside (valid_allows i (alone p ticks) wi plan w v), λ le. within_valid i (alone p ticks) wi plan w (alone_within i plan p ticks le))

pub returns-clause-lawful : goal.returns-clause-lawful
returns-clause-lawful c = λ i plan growth wi w within. grown_lawful i growth wi (leaves_windows i growth wi plan w within)
