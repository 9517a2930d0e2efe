-- By how much a plan fails the rule that its fault names: by something.
use Rattle.std.proofs.Common.{◌≢◌, ℕ, ◌<◌, ◌≤◌, arith, inl, inr, length, max, min, slice_index}
use Rattle.std.proofs.lemmas.Bool.{cases_lt}
use Rattle.ttp_model.specs.declared.error.Place.TheVariants.{AtProcess}
use Rattle.ttp_model.specs.declared.fault.PlanPart.{PlanPart}
use Rattle.ttp_model.specs.declared.fault.PlanPart.TheVariants as part
use Rattle.ttp_model.specs.declared.plan.Plan.{Plan}
use Rattle.ttp_model.specs.Faults.{IsFirstLate, IsFirstOverfull, IsFirstWrongList}
use Rattle.ttp_model.specs.Instance.{Instance, process_at, source_of}
use Rattle.ttp_model.specs.Plans.{AreApart, EndsInTime, HasArrived, end_of, load_on, round_of, start_of}
use Rattle.ttp_model.specs.Rules.{IsInstance}
use Rattle.plan_facts.specs.Ends.{must_end_by}
use Rattle.plan_reasons.specs.Lists.{entries_of, owners_of}

-- one number is above another where it isn't at most that
pub above : (a b : ℕ) → ¬ (a ≤ b) → b < a
above a b fails = elim (cases_lt b a) [
  | inl less ↦ less
  | inr at_most ↦ absurd (fails (omega (arith, at_most)))
]

module _ (i : Instance) (plan : Plan) where
  pub late : (p : ℕ) → ¬ EndsInTime i plan p → must_end_by i p < end_of i plan p
  late p fails = elim (cases_lt (process_at i p).deadline (end_of i plan p)) [
    | inl past ↦ omega (arith, past)
    | inr in_time ↦
        let past = above (end_of i plan p) i.cluster.horizon (λ within. fails (omega (arith, in_time), within)) in
        omega (arith, past)
  ]

  pub together : (p q : ℕ) → IsInstance i → p < length i.processes → q < length i.processes → ¬ AreApart i plan p q
      → max (start_of plan p) (start_of plan q) < min (end_of i plan p) (end_of i plan q)
  together p q w p_inside q_inside overlap =
      let p_runs = (w.ranges (AtProcess p) p_inside).wcet_least in
      let q_runs = (w.ranges (AtProcess q) q_inside).wcet_least in
      let p_over = above (end_of i plan p) (start_of plan q) (λ before. overlap (λ node. inl before)) in
      let q_over = above (end_of i plan q) (start_of plan p) (λ before. overlap (λ node. inr before)) in
      omega (arith, p_runs, q_runs, p_over, q_over)

  pub uneven : (list : PlanPart) → IsFirstWrongList i plan list → entries_of plan list ≢ owners_of i list
  uneven part.Order wrong = wrong
  uneven part.Capacities wrong = wrong.1
  uneven part.Starts wrong = wrong.2
  uneven part.Rounds wrong = wrong.3
  uneven part.Channels wrong = wrong.4

  pub unheard : (m q : ℕ) → IsFirstLate i plan m q → ¬ HasArrived i plan m q
  unheard m q first = λ arrived. first.first.fails (rw (← first.receiver) at arrived)

  pub too_full : (channels n r c : ℕ) → IsFirstOverfull i plan channels n r c → slice_index plan.caps n < load_on i plan n r c
  too_full channels n r c first =
      let n' = source_of i first.message in
      let over = above (load_on i plan n' (round_of plan first.message) c) (slice_index plan.caps n') (λ fits. first.channel.fails (λ on. fits)) in
      rw (first.node, first.round) at over
