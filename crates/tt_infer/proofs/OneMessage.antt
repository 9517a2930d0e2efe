-- Five steps on the worked example with one message: they close the root choice at 9, and not at 10.
use Rattle.std.proofs.Common.{◌≡◌, ℕ, zero, suc, ◌-◌, ◌<◌, ◌≤◌, min, List, [], ◌∷◌, length, arith, inl, inr, refl, ap, lit<}
use Rattle.std.proofs.lemmas.Bool.{cases_order}
use Rattle.ttp_model.specs.declared.step.Step.{Step}
use Rattle.ttp_model.specs.declared.step.Step.TheVariants.{EsRelease, EsArrive, LoSend, LeOwn, XWindow}
use Rattle.ttp_model.specs.Worked.{one_message}
use Rattle.ttp_model.specs.Plans.{start_of, end_of, round_of, sent_from, sent_until}
use Rattle.ttp_model.specs.Delays.{IsLowerBound, delay}
use Rattle.ttp_model.proofs.ValidPlans.{greatest_each}
use Rattle.tt_choice.specs.Branches.{root_choice}
use Rattle.tt_choice.specs.Extremes.{start_most, end_least}
use Rattle.tt_choice.proofs.Bounds.{start_between, end_between, end_least_later}
use Rattle.tt_choice.proofs.Root.{IsChoice-root, IsIn-root}
use Rattle.sought_plans.specs.Known.{Known, first_facts, le_of}
use Rattle.sought_plans.specs.Conclusions.{StartsFrom, SentFrom, EndsUntil, NothingLeft, sharpened}
use Rattle.sought_plans.specs.Premises.{IsFirstChance, least_end}
use Rattle.tt_infer.specs.Table.{IsLawful}
use Rattle.tt_infer.specs.Leaves.{Lead, ClosesLeaf}
use Rattle.tt_infer.proofs.OneMessageRules.{one_message_is_instance}
use Rattle.tt_infer.proofs.Determined.{Lead-determined}
use Rattle.tt_infer.proofs.Leaves.{Lead-append, Lead-split}
use Rattle.tt_infer.proofs.Sending.{agrees}

-- What is known at first, and after each step but the last: p starts at 0, m is sent in round 1, q
-- starts at 7, and ends a tick below the goal.
at_first : Known
at_first = first_facts one_message (root_choice one_message)

released : Known
released = sharpened one_message at_first (StartsFrom 0 0)

sent : Known
sent = sharpened one_message released (SentFrom 0 1)

arrived : Known
arrived = sharpened one_message sent (StartsFrom 1 7)

ended : ℕ → Known
ended goal = sharpened one_message arrived (EndsUntil 1 (min (min 1000000 100) (goal - 1)))

-- m is ready at 3, and the slot begins at 1 or earlier in round 0, at 5 or earlier in round 1
first_is : IsFirstChance one_message (root_choice one_message) released 0 1
unfolding at_first released
first_is = record { late_enough = lit< tt; least = least }
  where
    least : (s : ℕ) → 3 ≤ start_most one_message (root_choice one_message) 0 s → 1 ≤ s
    least zero h = absurd (omega (arith, h))
    least (suc s) h = omega arith

-- Each of these steps is lawful where the one before it leads, at each goal.
p_is_released : (goal : ℕ) → IsLawful one_message (root_choice one_message) goal at_first (EsRelease 0) released
unfolding released
p_is_released goal = record { there = lit< tt; premise = tt; conclusion = StartsFrom 0 0; concludes = refl; known = refl }

m_is_sent : (goal : ℕ) → IsLawful one_message (root_choice one_message) goal released (LoSend 0) sent
unfolding sent
m_is_sent goal = record { there = lit< tt; premise = tt; conclusion = SentFrom 0 1; concludes = (1, first_is, refl); known = refl }

m_arrives : (goal : ℕ) → IsLawful one_message (root_choice one_message) goal sent (EsArrive 0 1) arrived
unfolding at_first released sent arrived
m_arrives goal = record { there = (lit< tt, (0, lit< tt, refl)); premise = tt; conclusion = StartsFrom 1 7; concludes = refl; known = refl }

q_ends : (goal : ℕ) → IsLawful one_message (root_choice one_message) goal arrived (LeOwn 1) (ended goal)
unfolding ended
q_ends goal = record { there = lit< tt; premise = tt; conclusion = EndsUntil 1 (min (min 1000000 100) (goal - 1)); concludes = refl; known = refl }

four_steps : List Step
four_steps = EsRelease 0 ∷ LoSend 0 ∷ EsArrive 0 1 ∷ LeOwn 1 ∷ []

lead : (goal : ℕ) → Lead one_message (root_choice one_message) goal at_first four_steps (ended goal)
unfolding at_first released sent arrived four_steps
lead goal = (refl, (released, p_is_released goal, (refl, (sent, m_is_sent goal, (refl, (arrived, m_arrives goal, (refl, (ended goal, q_ends goal, refl))))))))

-- at 9 the window of q is too narrow
closed : Known
closed = sharpened one_message (ended 9) NothingLeft

window_closes : IsLawful one_message (root_choice one_message) 9 (ended 9) (XWindow 1) closed
unfolding at_first released sent arrived ended closed
window_closes = record { there = lit< tt; premise = lit< tt; conclusion = NothingLeft; concludes = refl; known = refl }

pub closes_at_9 : ClosesLeaf one_message (root_choice one_message) (record { goal = 9; steps = EsRelease 0 ∷ LoSend 0 ∷ EsArrive 0 1 ∷ LeOwn 1 ∷ XWindow 1 ∷ [] })
unfolding at_first released sent arrived ended four_steps closed
closes_at_9 =
    let last : Lead one_message (root_choice one_message) 9 (ended 9) (XWindow 1 ∷ []) closed = (refl, (closed, window_closes, refl)) in
    (closed, Lead-append one_message (root_choice one_message) 9 at_first four_steps (XWindow 1 ∷ []) (ended 9) closed (lead 9) last, refl)

-- and at 10 it isn't
pub open_at_10 : ¬ ClosesLeaf one_message (root_choice one_message) (record { goal = 10; steps = EsRelease 0 ∷ LoSend 0 ∷ EsArrive 0 1 ∷ LeOwn 1 ∷ XWindow 1 ∷ [] })
unfolding at_first released sent arrived ended four_steps
open_at_10 closes =
    let cut = Lead-split one_message (root_choice one_message) 10 at_first four_steps (XWindow 1 ∷ []) closes.0 closes.1 in
    let same : cut.0 ≡ ended 10 = Lead-determined one_message (root_choice one_message) 10 at_first four_steps cut.0 (ended 10) cut.1 (lead 10) in
    let narrow : le_of (ended 10) 1 < least_end one_message (ended 10) 1 = rw same at cut.2.1.1.premise in
    omega (arith, narrow)

-- Whatever the plan, settled or not: p ends at 3 or later, so m isn't sent in round 0, whose slot begins by 1.
pub bound_is_9 : IsLowerBound one_message 9
bound_is_9 plan v =
    let w = one_message_is_instance in
    let ok = IsChoice-root one_message w in
    let fits = agrees one_message (root_choice one_message) plan v (IsIn-root one_message plan w v) in
    let from = (start_between one_message (root_choice one_message) plan.order plan.caps 0 (round_of plan 0) w ok fits (lit< tt)).1 in
    let until = (end_between one_message (root_choice one_message) plan.order plan.caps 0 (round_of plan 0) w ok fits (lit< tt)).0 in
    let ready : 3 ≤ sent_from one_message plan 0 = omega (arith, v.ready 0 (lit< tt)) in
    let arrived : sent_until one_message plan 0 ≤ start_of plan 1 = omega (arith, v.arrived 0 (lit< tt) 0 (lit< tt)) in
    let late : 1 ≤ round_of plan 0 = elim (cases_order (round_of plan 0) 0) [
      | inl is ↦
          let early : start_most one_message (root_choice one_message) 0 (round_of plan 0) ≡ 1 = ap (start_most one_message (root_choice one_message) 0) is in
          absurd (omega (arith, from, ready, early))
      | inr apart ↦ elim apart [ inl below ↦ absurd (omega (arith, below)) | inr above ↦ omega (arith, above) ]
    ] in
    let again : 7 ≤ end_least one_message (root_choice one_message) 0 (round_of plan 0) = end_least_later one_message (root_choice one_message) 0 1 (round_of plan 0) late in
    let end : end_of one_message plan 1 ≤ delay one_message plan = greatest_each (end_of one_message plan) (length one_message.processes) 1 (lit< tt) in
    omega (arith, until, arrived, again, end)
