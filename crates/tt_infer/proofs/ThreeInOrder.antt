-- Six steps on the worked example with three processes of one node: in a settled plan they run in their order, and
-- none waits for what comes after it.
use Rattle.std.proofs.Common.{◌≡◌, ◌≢◌, ℕ, zero, suc, ◌<◌, ◌≤◌, [], ◌∷◌, length, arith, refl, lit<}
use Rattle.std.proofs.lemmas.Bool.{both_ways}
use Rattle.ttp_model.specs.declared.step.Step.TheVariants.{OrdTwin, UsSettled}
use Rattle.ttp_model.specs.Instance.{process_at}
use Rattle.ttp_model.specs.Worked.{three_alike}
use Rattle.ttp_model.specs.Graph.{HasLink}
use Rattle.ttp_model.specs.Twins.{AreTwins}
use Rattle.tt_choice.specs.Branches.{root_choice}
use Rattle.tt_infer.specs.declared.fault.StepFault.TheVariants.{NoPremise}
use Rattle.tt_infer.specs.Answers.{IsStepFault}
use Rattle.sought_plans.specs.Known.{Known, first_facts, le_of}
use Rattle.sought_plans.specs.Conclusions.{EndsUntil, GoesFirst, sharpened}
use Rattle.sought_plans.specs.Dominance.{MayGoBefore, IsGreatestWait}
use Rattle.tt_infer.specs.Table.{IsLawful}
use Rattle.tt_infer.specs.Leaves.{Lead}

-- What is known at first, after the three steps for twins, and after each of the three others.
abbrev at_first : Known
at_first = first_facts three_alike (root_choice three_alike)

abbrev a_before_b : Known
a_before_b = sharpened three_alike at_first (GoesFirst 0 1)

abbrev a_first : Known
a_first = sharpened three_alike a_before_b (GoesFirst 0 2)

abbrev in_order : Known
in_order = sharpened three_alike a_first (GoesFirst 1 2)

abbrev a_ended : Known
a_ended = sharpened three_alike in_order (EndsUntil 0 2)

abbrev b_ended : Known
b_ended = sharpened three_alike a_ended (EndsUntil 1 4)

abbrev c_ended : Known
c_ended = sharpened three_alike b_ended (EndsUntil 2 6)

-- there is neither a link nor a message
no_link : {A : Type 0} (p q : ℕ) → HasLink three_alike p q → A
no_link p q link = absurd (omega (arith, link.is_there))

no_message : {A : Type 0} (m : ℕ) → m < length three_alike.messages → A
no_message m h = absurd (omega (arith, h))

-- so they are twins, two by two
alike : (p q : ℕ) → p < 3 → q < 3 → p ≢ q → (process_at three_alike p).node ≡ (process_at three_alike q).node → (process_at three_alike p).wcet ≡ (process_at three_alike q).wcet → (process_at three_alike p).release ≡ (process_at three_alike q).release → (process_at three_alike p).deadline ≡ (process_at three_alike q).deadline → AreTwins three_alike p q
alike p q p_is q_is two node wcet release deadline = record {
  p_is = p_is;
  q_is = q_is;
  two = two;
  node = node;
  wcet = wcet;
  release = release;
  deadline = deadline;
  predecessors = λ k. (no_link k p, no_link k q);
  successors = λ k. (no_link p k, no_link q k);
  no_link = no_link p q;
  no_link_back = no_link q p;
  p_sends = λ m h. no_message m h;
  q_sends = λ m h. no_message m h;
  p_receives = λ k is. no_message is.message is.is_there;
  q_receives = λ k is. no_message is.message is.is_there;
}

a_and_b : AreTwins three_alike 0 1
a_and_b = alike 0 1 (lit< tt) (lit< tt) (λ is. omega (arith, is)) refl refl refl refl

a_and_c : AreTwins three_alike 0 2
a_and_c = alike 0 2 (lit< tt) (lit< tt) (λ is. omega (arith, is)) refl refl refl refl

b_and_c : AreTwins three_alike 1 2
b_and_c = alike 1 2 (lit< tt) (lit< tt) (λ is. omega (arith, is)) refl refl refl refl

a_goes_before_b : (goal : ℕ) → IsLawful three_alike (root_choice three_alike) goal at_first (OrdTwin 0 1) a_before_b
a_goes_before_b goal = record {
  there = record { first = lit< tt; second = lit< tt; two = a_and_b.two; one_node = refl };
  premise = record { in_order = lit< tt; twins = a_and_b };
  conclusion = GoesFirst 0 1;
  concludes = refl;
  known = refl;
}

a_goes_before_c : (goal : ℕ) → IsLawful three_alike (root_choice three_alike) goal a_before_b (OrdTwin 0 2) a_first
a_goes_before_c goal = record {
  there = record { first = lit< tt; second = lit< tt; two = a_and_c.two; one_node = refl };
  premise = record { in_order = lit< tt; twins = a_and_c };
  conclusion = GoesFirst 0 2;
  concludes = refl;
  known = refl;
}

b_goes_before_c : (goal : ℕ) → IsLawful three_alike (root_choice three_alike) goal a_first (OrdTwin 1 2) in_order
b_goes_before_c goal = record {
  there = record { first = lit< tt; second = lit< tt; two = b_and_c.two; one_node = refl };
  premise = record { in_order = lit< tt; twins = b_and_c };
  conclusion = GoesFirst 1 2;
  concludes = refl;
  known = refl;
}

-- a waits for its release alone
a_waits : IsGreatestWait three_alike (root_choice three_alike) in_order 0 0
a_waits = record {
  wait = record { release = omega arith; others = others; messages = λ m is. no_message m is.0 };
  least = λ other wait. omega arith;
}
  where
    others : (x : ℕ) → x < 3 → MayGoBefore three_alike in_order 0 x → le_of in_order x ≤ 0
    others zero h may = absurd (may.other refl)
    others (suc zero) h may = absurd (both_ways _ may.not_known refl)
    others (suc (suc zero)) h may = absurd (both_ways _ may.not_known refl)
    others (suc (suc (suc x))) h may = absurd (omega (arith, h))

-- b waits for a
b_waits : IsGreatestWait three_alike (root_choice three_alike) a_ended 1 2
b_waits = record {
  wait = record { release = omega arith; others = others; messages = λ m is. no_message m is.0 };
  least = λ other wait. let a_is : 2 ≤ other = wait.others 0 (lit< tt) (record { other = λ is. omega (arith, is); one_node = refl; not_known = refl; no_link = no_link 1 0 }) in a_is;
}
  where
    others : (x : ℕ) → x < 3 → MayGoBefore three_alike a_ended 1 x → le_of a_ended x ≤ 2
    others zero h may = omega arith
    others (suc zero) h may = absurd (may.other refl)
    others (suc (suc zero)) h may = absurd (both_ways _ may.not_known refl)
    others (suc (suc (suc x))) h may = absurd (omega (arith, h))

-- c waits for both
c_waits : IsGreatestWait three_alike (root_choice three_alike) b_ended 2 4
c_waits = record {
  wait = record { release = omega arith; others = others; messages = λ m is. no_message m is.0 };
  least = λ other wait. let b_is : 4 ≤ other = wait.others 1 (lit< tt) (record { other = λ is. omega (arith, is); one_node = refl; not_known = refl; no_link = no_link 2 1 }) in b_is;
}
  where
    others : (x : ℕ) → x < 3 → MayGoBefore three_alike b_ended 2 x → le_of b_ended x ≤ 4
    others zero h may = omega arith
    others (suc zero) h may = omega arith
    others (suc (suc zero)) h may = absurd (may.other refl)
    others (suc (suc (suc x))) h may = absurd (omega (arith, h))

a_ends : (goal : ℕ) → IsLawful three_alike (root_choice three_alike) goal in_order (UsSettled 0) a_ended
a_ends goal = record { there = lit< tt; premise = λ m is. no_message m is.0; conclusion = EndsUntil 0 2; concludes = (0, a_waits, refl); known = refl }

b_ends : (goal : ℕ) → IsLawful three_alike (root_choice three_alike) goal a_ended (UsSettled 1) b_ended
b_ends goal = record { there = lit< tt; premise = λ m is. no_message m is.0; conclusion = EndsUntil 1 4; concludes = (2, b_waits, refl); known = refl }

c_ends : (goal : ℕ) → IsLawful three_alike (root_choice three_alike) goal b_ended (UsSettled 2) c_ended
c_ends goal = record { there = lit< tt; premise = λ m is. no_message m is.0; conclusion = EndsUntil 2 6; concludes = (4, c_waits, refl); known = refl }

pub end_one_after_another : (goal : ℕ) → (g : Known) × Lead three_alike (root_choice three_alike) goal at_first (OrdTwin 0 1 ∷ OrdTwin 0 2 ∷ OrdTwin 1 2 ∷ UsSettled 0 ∷ UsSettled 1 ∷ UsSettled 2 ∷ []) g × (g.le ≡ 2 ∷ 4 ∷ 6 ∷ [])
end_one_after_another goal = (c_ended, (refl, (a_before_b, a_goes_before_b goal, (refl, (a_first, a_goes_before_c goal, (refl, (in_order, b_goes_before_c goal, (refl, (a_ended, a_ends goal, (refl, (b_ended, b_ends goal, (refl, (c_ended, c_ends goal, refl)))))))))))), refl)

-- twins don't go the other way round
pub turned_is_refused : (goal : ℕ) → IsStepFault three_alike (root_choice three_alike) goal at_first (OrdTwin 1 0) NoPremise
turned_is_refused goal = (refl, (record { first = lit< tt; second = lit< tt; two = λ is. omega (arith, is); one_node = refl }, λ is. omega (arith, is.in_order)))
