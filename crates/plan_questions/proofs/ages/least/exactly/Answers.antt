use Rattle.std.proofs.Common.{◌-◌, length, arith, sym, subst}
use Rattle.ttp_model.specs.Instance.{Instance}
use Rattle.ttp_model.specs.Lists.{EachBelow, IsFirstFailure}
use Rattle.ttp_model.specs.Rules.{CanEndInTime}
use Rattle.endless_schedules.specs.Aging.{aged}
use Rattle.plan_questions.proofs.AgeCuts.{age_shown, age_window, one_less_lacks, some_of_plan}
use Rattle.plan_questions.proofs.ages.least.exactly.Goals as goal

pub overflow_sub-age : goal.overflow_sub-age
overflow_sub-age c = omega (arith, some_of_plan _ _ _ _ c.requires.asked c.args.age c.args.plan c.requires.exact.plan_at)

pub first_without_room-job-requires-clause-lacks : goal.first_without_room-job-requires-clause-lacks
first_without_room-job-requires-clause-lacks c =
    let a = c.args.cut.now.aging.now in
    let lacks = one_less_lacks _ _ _ _ c.requires.asked c.args.options c.args.age c.args.plan c.args.below c.requires.exact c.if-age-cut.true in
    subst (λ (it : Instance). ¬ EachBelow (length it.processes) (CanEndInTime (aged a.rates.now a.chain (c.args.age - 1)))) (sym c.requires.aging.base) lacks

pub returns-then-age-cut : goal.returns-then-age-cut
returns-then-age-cut c =
    let a = c.args.cut.now.aging.now in
    let job = c.first_without_room-job.result in
    let full = subst (λ (it : Instance). IsFirstFailure (length it.processes) (CanEndInTime (aged a.rates.now a.chain (c.args.age - 1))) job)
    c.requires.aging.base c.first_without_room-job.ensures in
    age_window _ _ _ _ c.requires.asked c.args.options c.args.age job c.args.plan c.args.below c.requires.exact full

pub returns : goal.returns
returns c =
    age_shown _ _ _ _ c.requires.asked c.args.options c.args.age c.args.plan c.in-Some.cert (rw c.in-Some.is at c.requires.exact) c.if-age-cut.false
