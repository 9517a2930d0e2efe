-- Steps on the worked example with one message, at the choice in which B is placed first and at smaller goals.
use Rattle.std.proofs.Common.{ℕ, zero, suc, ◌≤◌, [], ◌∷◌, arith, refl, lit<}
use Rattle.ttp_model.specs.declared.step.Step.TheVariants.{EsRelease, EsArrive, LoSend, LeOwn, LeSend, HiArrive, XWindow, XRound}
use Rattle.ttp_model.specs.Worked.{one_message}
use Rattle.tt_choice.specs.Choice.{Choice}
use Rattle.tt_choice.specs.Branches.{root_choice, place_next}
use Rattle.tt_choice.specs.Extremes.{start_most}
use Rattle.tt_infer.specs.declared.fault.StepFault.TheVariants.{NoPremise}
use Rattle.tt_infer.specs.Answers.{IsStepFault}
use Rattle.sought_plans.specs.Known.{Known, first_facts}
use Rattle.sought_plans.specs.Conclusions.{StartsFrom, SentFrom, SentBefore, EndsUntil, NothingLeft, sharpened}
use Rattle.sought_plans.specs.Premises.{IsFirstChance, AreChances}
use Rattle.tt_infer.specs.Table.{IsLawful}
use Rattle.tt_infer.specs.Leaves.{Lead, ClosesLeaf}

-- B is placed first
abbrev b_first : Choice
b_first = place_next (root_choice one_message) 1

-- What is known of it at first, and after each of the five steps: the slot of A begins a tick later, and so q starts
-- at 8.
abbrev at_first : Known
at_first = first_facts one_message b_first

abbrev released : Known
released = sharpened one_message at_first (StartsFrom 0 0)

abbrev sent : Known
sent = sharpened one_message released (SentFrom 0 1)

abbrev arrived : Known
arrived = sharpened one_message sent (StartsFrom 1 8)

abbrev ended : Known
ended = sharpened one_message arrived (EndsUntil 1 7)

abbrev closed : Known
closed = sharpened one_message ended NothingLeft

first_is : IsFirstChance one_message b_first released 0 1
first_is = record { late_enough = lit< tt; least = least }
  where
    least : (s : ℕ) → 3 ≤ start_most one_message b_first 0 s → 1 ≤ s
    least zero h = absurd (omega (arith, h))
    least (suc s) h = omega arith

p_is_released : IsLawful one_message b_first 8 at_first (EsRelease 0) released
p_is_released = record { there = lit< tt; premise = tt; conclusion = StartsFrom 0 0; concludes = refl; known = refl }

m_is_sent : IsLawful one_message b_first 8 released (LoSend 0) sent
m_is_sent = record { there = lit< tt; premise = tt; conclusion = SentFrom 0 1; concludes = (1, first_is, refl); known = refl }

m_arrives : IsLawful one_message b_first 8 sent (EsArrive 0 1) arrived
m_arrives = record { there = (lit< tt, (0, lit< tt, refl)); premise = tt; conclusion = StartsFrom 1 8; concludes = refl; known = refl }

q_ends : IsLawful one_message b_first 8 arrived (LeOwn 1) ended
q_ends = record { there = lit< tt; premise = tt; conclusion = EndsUntil 1 7; concludes = refl; known = refl }

window_closes : IsLawful one_message b_first 8 ended (XWindow 1) closed
window_closes = record { there = lit< tt; premise = lit< tt; conclusion = NothingLeft; concludes = refl; known = refl }

pub closes_inside_at_8 : ClosesLeaf one_message b_first (record { goal = 8; steps = EsRelease 0 ∷ LoSend 0 ∷ EsArrive 0 1 ∷ LeOwn 1 ∷ XWindow 1 ∷ [] })
closes_inside_at_8 = (closed, (refl, (released, p_is_released, (refl, (sent, m_is_sent, (refl, (arrived, m_arrives, (refl, (ended, q_ends, (refl, (closed, window_closes, refl)))))))))), refl)

-- Three steps lead on at the root at 9: q ends by 8, so m is sent before round 1, and p ends by 1.
abbrev start : Known
start = first_facts one_message (root_choice one_message)

abbrev q_by_8 : Known
q_by_8 = sharpened one_message start (EndsUntil 1 8)

abbrev m_before_1 : Known
m_before_1 = sharpened one_message q_by_8 (SentBefore 0 1)

abbrev p_by_1 : Known
p_by_1 = sharpened one_message m_before_1 (EndsUntil 0 1)

chances_at_9 : AreChances one_message (root_choice one_message) q_by_8 0 1 1
chances_at_9 s = (λ below. omega (arith, below), λ early. omega (arith, early))

q_ends_by_8 : IsLawful one_message (root_choice one_message) 9 start (LeOwn 1) q_by_8
q_ends_by_8 = record { there = lit< tt; premise = tt; conclusion = EndsUntil 1 8; concludes = refl; known = refl }

m_is_sent_by_1 : IsLawful one_message (root_choice one_message) 9 q_by_8 (HiArrive 0 1) m_before_1
m_is_sent_by_1 = record { there = (lit< tt, (0, lit< tt, refl)); premise = tt; conclusion = SentBefore 0 1; concludes = (1, chances_at_9, refl); known = refl }

p_ends_by_1 : IsLawful one_message (root_choice one_message) 9 m_before_1 (LeSend 0) p_by_1
p_ends_by_1 = record { there = lit< tt; premise = lit< tt; conclusion = EndsUntil 0 1; concludes = refl; known = refl }

pub three_lead_at_9 : (g : Known) × Lead one_message (root_choice one_message) 9 start (LeOwn 1 ∷ HiArrive 0 1 ∷ LeSend 0 ∷ []) g
three_lead_at_9 = (p_by_1, (refl, (q_by_8, q_ends_by_8, (refl, (m_before_1, m_is_sent_by_1, (refl, (p_by_1, p_ends_by_1, refl)))))))

-- Inside at 3 the message has no round after two of them.
abbrev q_by_2 : Known
q_by_2 = sharpened one_message at_first (EndsUntil 1 2)

abbrev no_round : Known
no_round = sharpened one_message q_by_2 (SentBefore 0 0)

no_chances : AreChances one_message b_first q_by_2 0 1 0
no_chances s = (λ below. absurd (omega (arith, below)), λ early. absurd (omega (arith, early)))

q_ends_by_2 : IsLawful one_message b_first 3 at_first (LeOwn 1) q_by_2
q_ends_by_2 = record { there = lit< tt; premise = tt; conclusion = EndsUntil 1 2; concludes = refl; known = refl }

m_is_not_sent : IsLawful one_message b_first 3 q_by_2 (HiArrive 0 1) no_round
m_is_not_sent = record { there = (lit< tt, (0, lit< tt, refl)); premise = tt; conclusion = SentBefore 0 0; concludes = (0, no_chances, refl); known = refl }

pub third_is_refused : (g : Known) × Lead one_message b_first 3 at_first (LeOwn 1 ∷ HiArrive 0 1 ∷ []) g × IsStepFault one_message b_first 3 g (LeSend 0) NoPremise
third_is_refused = (no_round, (refl, (q_by_2, q_ends_by_2, (refl, (no_round, m_is_not_sent, refl)))), (refl, (lit< tt, λ some. omega (arith, some))))

round_closes : IsLawful one_message b_first 3 no_round (XRound 0) (sharpened one_message no_round NothingLeft)
round_closes = record { there = lit< tt; premise = omega arith; conclusion = NothingLeft; concludes = refl; known = refl }

pub closes_inside_at_3 : ClosesLeaf one_message b_first (record { goal = 3; steps = LeOwn 1 ∷ HiArrive 0 1 ∷ XRound 0 ∷ [] })
closes_inside_at_3 = (sharpened one_message no_round NothingLeft, (refl, (q_by_2, q_ends_by_2, (refl, (no_round, m_is_not_sent, (refl, (sharpened one_message no_round NothingLeft, round_closes, refl)))))), refl)
