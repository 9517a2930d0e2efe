-- How many steps a propagation can append: each lowers the slack, which is not large at first.
use Rattle.std.proofs.Common.{◌≡◌, ◌≢◌, ℕ, ◌+◌, ◌-◌, ◌*◌, ◌<◌, ◌^◌, ◌≤◌, List, [], ◌∷◌, length, slice_index, get_or, map, Bool, true, false, All, IsTrue, if◌then◌else◌, sum_by, arith, ap, sym, subst, ◌∙◌}
use Rattle.std.proofs.Math.Nat.{mul-le-mul}
use Rattle.std.proofs.lemmas.List.{length-map}
use Rattle.std.proofs.lemmas.List.Elements.{All-map}
use Rattle.std.proofs.lemmas.List.Folds.{sum_by-replicate}
use Rattle.std.proofs.lemmas.List.Sums.{sum_by-le}
use Rattle.std.proofs.lemmas.Grind.{get_or_default_zero}
use Rattle.ttp_model.specs.declared.error.Place.TheVariants.{AtCluster}
use Rattle.ttp_model.specs.declared.limits.TheConstants.{MOST_MESSAGES, MOST_PROCESSES, MOST_TICKS}
use Rattle.ttp_model.specs.declared.step.Step.{Step}
use Rattle.ttp_model.specs.Instance.{Instance}
use Rattle.ttp_model.specs.Rules.{IsInstance}
use Rattle.tt_choice.specs.Choice.{Choice, IsChoice}
use Rattle.tt_infer.specs.Known.{Known, Fits, first_facts}
use Rattle.tt_infer.specs.Facts.{Facts}
use Rattle.tt_infer.specs.Table.{IsLawful}
use Rattle.tt_infer.proofs.FirstFacts.{first_facts_fit}
use Rattle.tt_infer.proofs.Sound.{step_is_about, Fits-step}
use Rattle.tt_infer.specs.Leaves.{LeadSharply, ClosesSharply}
use Rattle.step_logs.specs.Journal.{Journal, Advances, slack}
use Rattle.tt_infer.proofs.Targets.{stays}
use Rattle.step_logs.proofs.Targets.{lowers}

-- a lawful step that changes what is known lowers the slack
step_lowers : (i : Instance) (c : Choice) (goal : ℕ) (f : Known) (step : Step) (g : Known) → IsInstance i → Fits i f → IsLawful i c goal f step g → g ≢ f → slack i g < slack i f
step_lowers i c goal f step g w fits lawful differs =
    let k = lawful.conclusion in
    let about = step_is_about i c goal f step k w lawful.there lawful.premise lawful.concludes in
    let fell = lowers i f fits k about (λ same. differs (lawful.known ∙ stays i f k fits about same)) in
    rw lawful.known fell

steps_lower : (i : Instance) (c : Choice) (goal : ℕ) (f : Known) (steps : List Step) (g : Known) → IsInstance i → Fits i f → LeadSharply i c goal f steps g → length steps + slack i g ≤ slack i f
steps_lower i c goal f [] g w fits lead = omega (arith, ap (slack i) lead)
steps_lower i c goal f (step ∷ steps) g w fits lead =
    let next = lead.1.0 in
    let lawful = lead.1.1 in
    let fell = step_lowers i c goal f step next w fits lawful lead.1.2 in
    let rest = steps_lower i c goal next steps g w (Fits-step i c goal f step next fits lawful) lead.1.3 in
    omega (arith, fell, rest)

-- The slack of the first facts, part by part.
module _ (i : Instance) (c : Choice) (w : IsInstance i) (ok : IsChoice i c) where
  horizon_small : i.cluster.horizon ≤ MOST_TICKS
  horizon_small = (w.ranges AtCluster).horizon

  starts_small : sum_by (λ time. i.cluster.horizon + 1 - time) (first_facts i c).es ≤ MOST_PROCESSES * (MOST_TICKS + 1)
  starts_small =
      let is = sum_by-replicate {X = ℕ} (λ time. i.cluster.horizon + 1 - time) (length i.processes) 0 in
      let few = mul-le-mul {n₁ = length i.processes} {m₁ = i.cluster.horizon + 1 - 0} {n₂ = MOST_PROCESSES} {m₂ = MOST_TICKS + 1} w.limits.processes (omega (arith, horizon_small)) in
      omega (arith, is, few)

  ends_small : sum_by (λ (time : ℕ). time) (first_facts i c).le ≤ MOST_PROCESSES * MOST_TICKS
  ends_small =
      let is = sum_by-replicate {X = ℕ} (λ time. time) (length i.processes) i.cluster.horizon in
      let few = mul-le-mul {n₁ = length i.processes} {m₁ = i.cluster.horizon} {n₂ = MOST_PROCESSES} {m₂ = MOST_TICKS} w.limits.processes horizon_small in
      omega (arith, is, few)

  firsts_small : sum_by (λ r. i.cluster.horizon + 1 - r) (first_facts i c).lo ≤ MOST_MESSAGES * (MOST_TICKS + 1)
  firsts_small =
      let each = sum_by-le {X = ℕ} (λ r. i.cluster.horizon + 1 - r) (i.cluster.horizon + 1) c.lo (λ k d h. omega arith) in
      let few = mul-le-mul {n₁ = length c.lo} {m₁ = i.cluster.horizon + 1} {n₂ = MOST_MESSAGES} {m₂ = MOST_TICKS + 1} (omega (arith, ok.lo_length, w.limits.messages)) (omega (arith, horizon_small)) in
      omega (arith, each, few)

  each_late_small : All (λ (r : ℕ). r ≤ i.cluster.horizon) (map (λ r. r + 1) c.hi)
  each_late_small = All-map (λ (r : ℕ). r ≤ i.cluster.horizon) (λ (r : ℕ). r + 1) c.hi (λ k d h.
      let is : slice_index c.hi k ≡ get_or c.hi k d = sym (get_or_default_zero c.hi k d h) in
      omega (arith, ok.within k (omega (arith, h, ok.hi_length)), is))

  lates_small : sum_by (λ (r : ℕ). r) (first_facts i c).top ≤ MOST_MESSAGES * MOST_TICKS
  lates_small =
      let each = sum_by-le {X = ℕ} (λ r. r) i.cluster.horizon (map (λ r. r + 1) c.hi) each_late_small in
      let size = length-map c.hi (λ (r : ℕ). r + 1) in
      let few = mul-le-mul {n₁ = length (map (λ (r : ℕ). r + 1) c.hi)} {m₁ = i.cluster.horizon} {n₂ = MOST_MESSAGES} {m₂ = MOST_TICKS} (omega (arith, size, ok.hi_length, w.limits.messages)) horizon_small in
      omega (arith, each, few)

  at_most_one : (b : Bool) → (if b then 0 else 1) ≤ 1
  at_most_one true = omega arith
  at_most_one false = omega arith

  orders_small : sum_by (λ (test : Bool). if test then 0 else 1) (first_facts i c).bef.tests ≤ MOST_PROCESSES * MOST_PROCESSES
  orders_small =
      let each = sum_by-le {X = Bool} (λ test. if test then 0 else 1) 1 c.before.tests (λ k d h. at_most_one _) in
      let few = mul-le-mul {n₁ = length i.processes} {m₁ = length i.processes} {n₂ = MOST_PROCESSES} {m₂ = MOST_PROCESSES} w.limits.processes w.limits.processes in
      omega (arith, each, few, ok.tests)

  first_slack : slack i (first_facts i c) < 2000000000
  first_slack = omega (arith, starts_small, ends_small, firsts_small, lates_small, orders_small)

  -- what a log from the first facts on appends is few
  pub few_steps : (goal : ℕ) (steps : List Step) (g : Known) → LeadSharply i c goal (first_facts i c) steps g → length steps < 2000000000
  few_steps goal steps g lead = omega (arith, steps_lower i c goal (first_facts i c) steps g w (first_facts_fit i c ok) lead, first_slack)

  -- a log from the first facts on, where no plan is left
  pub closes_log : (goal : ℕ) (steps : List Step) (g : Known) → LeadSharply i c goal (first_facts i c) steps g → IsTrue g.closed → ClosesSharply i c (record { goal = goal; steps = steps }) × (length steps < 2 ^ 32)
  closes_log goal steps g lead closed =
      ((g, lead, closed), omega (arith, few_steps goal steps g lead))

  -- so of a log that began there without steps
  pub closes_of : (goal : ℕ) (new : List Step) (start end : Journal) (s : Facts)
      → start ≡ record { facts = record { instance = i; choice = c; goal = goal; known = first_facts i c }; steps = [] } → Advances start end
      → s ≡ end.facts → new ≡ end.steps → IsTrue s.known.closed → ClosesSharply i c (record { goal = goal; steps = new }) × (length new < 2 ^ 32)
  closes_of goal new start end s begins advances same steps closed =
      let first : Journal = record { facts = record { instance = i; choice = c; goal = goal; known = first_facts i c }; steps = [] } in
      let all : Advances first (record { facts = s; steps = new }) = rw (← begins, same, steps) advances in
      let done = closes_log goal all.more s.known all.lead closed in
      subst (λ (xs : List Step). ClosesSharply i c (record { goal = goal; steps = xs }) × (length xs < 2 ^ 32)) (sym all.steps) done
