use Rattle.std.proofs.Common.{ℕ, Option, None, Some, IfSome}
use Rattle.sought_plans.proofs.GreatestWaits.{greatest_wait_from}
use Rattle.sought_plans.proofs.wait.greatest_wait.Goals as goal

-- what follows of the value that there is, if there is one
of_some : (P Q : ℕ → Type 0) (found : Option ℕ) → ((time : ℕ) → P time → Q time) → IfSome found P → IfSome found Q
of_some P Q None follows h = tt
of_some P Q (Some time) follows h = follows time h

pub returns-clause-wait : goal.returns-clause-wait
returns-clause-wait c =
    let s = c.args.setting.now in
    let others = rw c.instance.ensures at c.last_end-ended.ensures in
    of_some _ _ c.all_arrived.result (λ time all. greatest_wait_from s.instance s.choice c.args.known.now c.args.p c.last_end-ended.result time others (rw c.from.ensures at all)) c.all_arrived.ensures.last
