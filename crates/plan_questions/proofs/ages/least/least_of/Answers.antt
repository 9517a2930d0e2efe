use Rattle.plan_questions.proofs.AgeCuts.{age_between, age_cuts, age_never, age_unknown}
use Rattle.plan_questions.proofs.ages.least.least_of.Goals as goal

pub least_number-requires-clause-sound : goal.least_number-requires-clause-sound
least_number-requires-clause-sound g c = λ κs alive. (c.requires.aging, c.requires.asked.bound)

pub least_number-requires-clause-cutting : goal.least_number-requires-clause-cutting
least_number-requires-clause-cutting g c = λ κs alive. age_cuts _ _ _ _ c.requires.asked

pub returns-in-Apart : goal.returns-in-Apart
returns-in-Apart g c =
    age_between _ _ _ _ c.requires.asked c.args.asking.now.options c.in-Apart.low c.in-Apart.high c.in-Apart.plan c.in-Apart.cert
    (rw c.in-Apart.is at c.in_ok-least.ensures)

pub returns-in-Open : goal.returns-in-Open
returns-in-Open g c = age_unknown _ _ _ _ c.requires.asked c.args.asking.now.options c.in-Open.cert (rw c.in-Open.is at c.in_ok-least.ensures)

pub returns : goal.returns
returns g c = age_never _ _ _ _ c.requires.asked c.args.asking.now.options c.in-Never.cert (rw c.in-Never.is at c.in_ok-least.ensures)
