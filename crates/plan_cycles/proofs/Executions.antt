-- Executions of one node follow one another, in a cycle and from cycle to cycle.
use Rattle.std.proofs.Common.{◌≡◌, ℕ, ◌*◌, ◌<◌, ◌≤◌, length, arith, inl, inr, refl, ap}
use Rattle.std.proofs.lemmas.Bool.{cases_eq, cases_order}
use Rattle.ttp_model.specs.declared.plan.Plan.{Plan}
use Rattle.ttp_model.specs.Instance.{Instance}
use Rattle.ttp_model.specs.Plans.{IsValid, end_of}
use Rattle.ttp_model.proofs.ValidPlans.{two_apart}
use Rattle.plan_cycles.specs.Cycles.{Execution}
use Rattle.plan_cycles.specs.Repeating.{AreExecutionsApart}
use Rattle.plan_cycles.proofs.Periods.{earlier_cycle}

abbrev execution : ℕ → ℕ → Execution
execution c p = record { cycle = c; process = p }

same_execution : (c d p q : ℕ) → c ≡ d → p ≡ q → execution c p ≡ execution d q
same_execution c d p q cycle process = rw (cycle, process) refl

pub executions_apart : (period : ℕ) (i : Instance) (plan : Plan) → IsValid i plan → ((p : ℕ) → p < length i.processes → end_of i plan p ≤ period) → AreExecutionsApart period i plan
executions_apart period i plan v within e f here there one_node differ = elim (cases_order e.cycle f.cycle) [
  | inl one_cycle ↦
      let moved = ap (λ c. c * period) one_cycle in
      elim (cases_eq e.process f.process) [
        | inl one ↦ absurd (differ (same_execution e.cycle f.cycle e.process f.process one_cycle one))
        | inr two ↦ elim (two_apart i plan e.process f.process v here there two one_node) [
          | inl first ↦ inl (omega (arith, first, moved))
          | inr second ↦ inr (omega (arith, second, moved))
        ]
      ]
  | inr other ↦ elim other [
    | inl earlier ↦ inl (omega (arith, earlier_cycle period e.cycle f.cycle (end_of i plan e.process) (within e.process here) earlier))
    | inr later ↦ inr (omega (arith, earlier_cycle period f.cycle e.cycle (end_of i plan f.process) (within f.process there) later))
  ]
]
