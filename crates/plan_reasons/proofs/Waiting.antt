-- Whether a process starts only when all is over that it waits for.
use Rattle.std.proofs.Common.{◌≡◌, ◌≢◌, ℕ, ◌-◌, ◌<◌, length, arith}
use Rattle.ttp_model.specs.declared.plan.Plan.{Plan}
use Rattle.ttp_model.specs.Instance.{Instance, process_at}
use Rattle.ttp_model.specs.Lists.{EachBelow}
use Rattle.ttp_model.specs.Plans.{IsValid, end_of, start_of}
use Rattle.tt_moves.specs.Earlier.{CanStart}
use Rattle.plan_facts.specs.Earliest.{IsFirstStart}
use Rattle.plan_facts.specs.Messages.{arrival}
use Rattle.plan_facts.proofs.Starting.{there_by_start}
use Rattle.plan_reasons.specs.PlanCauses.{MessageHolds, ProcessHolds}

module _ (i : Instance) (plan : Plan) (p : ℕ) (v : IsValid i plan) (inside : p < length i.processes) where
  -- where nothing is over just when it starts, it could start a tick earlier
  pub starts_late : (time : ℕ) → (process_at i p).release ≢ start_of plan p → EachBelow (length i.processes) (λ q. ¬ ProcessHolds i plan p q)
      → EachBelow (length i.messages) (λ m. ¬ MessageHolds i plan p m) → IsFirstStart i plan p time → time < start_of plan p
  starts_late time late alone unheard first =
      let below : (process_at i p).release < start_of plan p = omega (arith, late, v.released p inside) in
      let sooner : CanStart i plan p (start_of plan p - 1) = record {
        released = omega (arith, below);
        others = λ x within node ends. let apart : end_of i plan x ≢ start_of plan p = λ is. alone x within (node, is) in omega (arith, ends, apart);
        messages = λ m within receives. let apart : arrival i plan m ≢ start_of plan p = λ is. unheard m within (receives, is) in omega
            (arith, there_by_start i plan p v inside m within receives, apart);
      } in
      omega (arith, below, first.least (start_of plan p - 1) sooner)
