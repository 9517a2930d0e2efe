-- Two steps on the worked example with one message: no settled plan sends it in round 2 or later.
use Rattle.std.proofs.Common.{ℕ, zero, suc, ◌<◌, ◌≤◌, [], ◌∷◌, arith, refl, lit<}
use Rattle.ttp_model.specs.declared.step.Step.TheVariants.{UsSettled, XLate}
use Rattle.ttp_model.specs.Worked.{one_message}
use Rattle.tt_choice.specs.Choice.{Choice}
use Rattle.tt_choice.specs.Branches.{root_choice, at_least}
use Rattle.sought_plans.specs.Known.{Known, first_facts, le_of}
use Rattle.sought_plans.specs.Conclusions.{EndsUntil, NothingLeft, sharpened}
use Rattle.sought_plans.specs.Premises.{GoesTo}
use Rattle.sought_plans.specs.Dominance.{MayGoBefore, IsGreatestWait, CouldBeEarlier}
use Rattle.tt_infer.specs.Table.{IsLawful}
use Rattle.tt_infer.specs.Leaves.{ClosesLeaf}

abbrev later : Choice
later = at_least (root_choice one_message) 0 2

-- What is known at first, once p is known to end by 3, and once no plan is left.
abbrev at_first : Known
at_first = first_facts one_message later

abbrev p_ended : Known
p_ended = sharpened one_message at_first (EndsUntil 0 3)

abbrev closed : Known
closed = sharpened one_message p_ended NothingLeft

-- p is alone on its node and receives nothing
p_receives_nothing : (m : ℕ) → ¬ GoesTo one_message m 0
p_receives_nothing zero (there, (zero, inside, is)) = omega (arith, is)
p_receives_nothing zero (there, (suc k, inside, is)) = omega (arith, inside)
p_receives_nothing (suc m) is = omega (arith, is.0)

p_waits : IsGreatestWait one_message later at_first 0 0
p_waits = record {
  wait = record { release = omega arith; others = others; messages = λ m is. absurd (p_receives_nothing m is) };
  least = λ other wait. omega arith;
}
  where
    others : (x : ℕ) → x < 2 → MayGoBefore one_message at_first 0 x → le_of at_first x ≤ 0
    others zero h may = absurd (may.other refl)
    others (suc zero) h may = absurd (let one = may.one_node in omega (arith, one))
    others (suc (suc x)) h may = absurd (omega (arith, h))

p_ends : (goal : ℕ) → IsLawful one_message later goal at_first (UsSettled 0) p_ended
p_ends goal = record { there = lit< tt; premise = λ m is. absurd (p_receives_nothing m is); conclusion = EndsUntil 0 3; concludes = (0, p_waits, refl); known = refl }

-- the slot of round 1 begins at 4 or later, and has room for the message's two bytes
could_be_earlier : CouldBeEarlier one_message later p_ended 0 1
could_be_earlier = record { earlier = lit< tt; ready = omega arith; room = omega arith }

m_is_late : (goal : ℕ) → IsLawful one_message later goal p_ended (XLate 0 1) closed
m_is_late goal = record { there = lit< tt; premise = could_be_earlier; conclusion = NothingLeft; concludes = refl; known = refl }

pub closes_late_rounds : (goal : ℕ) → ClosesLeaf one_message later (record { goal = goal; steps = UsSettled 0 ∷ XLate 0 1 ∷ [] })
closes_late_rounds goal = (closed, (refl, (p_ended, p_ends goal, (refl, (closed, m_is_late goal, refl)))), refl)
