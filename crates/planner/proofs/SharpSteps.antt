-- The steps of a leaf after which more is known.
use Rattle.std.proofs.Common.{◌≡◌, ◌≢◌, ℕ, ◌+◌, ◌<◌, List, [], ◌∷◌, ◌++◌, length, slice_index_or, drop, refl, sym, ap, subst, ◌∙◌, inl, inr}
use Rattle.std.proofs.Common.{IsFalse, IsTrue, nat_eq, not}
use Rattle.std.proofs.lemmas.Bool.{cases_Bool, eq-eqb, eqb-true, false≢true}
use Rattle.std.proofs.lemmas.List.{drop_more}
use Rattle.ttp_model.specs.declared.step.Step.{Step}
use Rattle.ttp_model.specs.Instance.{Instance}
use Rattle.tt_choice.specs.Choice.{Choice}
use Rattle.sought_plans.specs.Known.{Known}
use Rattle.tt_infer.specs.Facts.{Facts, AreFacts, after}
use Rattle.tt_infer.specs.Table.{IsLawful}
use Rattle.tt_infer.specs.Leaves.{LeadSharply}
use Rattle.tt_infer.proofs.Determined.{IsLawful-determined}
use Rattle.tt_infer.proofs.Rows.{target_is}
use Rattle.tt_infer.proofs.Sound.{step_is_about}
use Rattle.tt_infer.specs.Targets.{target, known_value}
use Rattle.tt_infer.proofs.Targets.{stays}
use Rattle.planner.specs.Sharp.{IsNext, LeadsToEnd}

pub only_next : (s : Facts) (step : Step) (g h : Known) → IsLawful s.instance s.choice s.goal s.known step h → IsNext s step g → h ≡ g
only_next s step g h lawful next = IsLawful-determined s.instance s.choice s.goal s.known step h g lawful next.lawful

-- a lawful step after which its target has the same value leaves all that is known
pub nothing_more : (s : Facts) (step : Step) (g : Known) → AreFacts s → IsLawful s.instance s.choice s.goal s.known step g
    → known_value g (target s.instance step) ≡ known_value s.known (target s.instance step) → g ≡ s.known
nothing_more s step g ok lawful same =
    let about = step_is_about s.instance s.choice s.goal s.known step lawful.conclusion ok.instance lawful.there lawful.premise lawful.concludes in
    let is = target_is s.instance s.choice s.goal s.known step lawful.conclusion lawful.concludes in
    lawful.known ∙ stays s.instance s.known lawful.conclusion ok.fits about (rw (← lawful.known, is) same)

-- what a test of two values says
pub values_differ : (a b : ℕ) → IsTrue (not (nat_eq a b)) → a ≢ b
values_differ a b holds same = false≢true (rw (eq-eqb a b same) at holds)

pub values_agree : (a b : ℕ) → IsFalse (not (nat_eq a b)) → a ≡ b
values_agree a b fails = elim (cases_Bool (nat_eq a b)) [
  | inl equal ↦ eqb-true a b equal
  | inr other ↦ absurd (false≢true (sym (rw other at fails)))
]

-- two lists of sharp steps, one behind the other
lead_behind : (i : Instance) (c : Choice) (goal : ℕ) (f : Known) (steps others : List Step) (g h : Known) → LeadSharply i c goal f steps g
    → LeadSharply i c goal g others h → LeadSharply i c goal f (steps ++ others) h
lead_behind i c goal f [] others g h first second = rw (← first) second
lead_behind i c goal f (step ∷ steps) others g h first second =
    (first.0, (first.1.0, first.1.1, first.1.2, lead_behind i c goal first.1.0 steps others g h first.1.3 second))

-- a step more after which more is known
pub one_more : (s : Facts) (kept : List Step) (step : Step) (f g : Known) → IsNext s step g → g ≢ s.known
    → LeadSharply s.instance s.choice s.goal f kept s.known → LeadSharply s.instance s.choice s.goal f (kept ++ step ∷ []) g
one_more s kept step f g next more lead =
    lead_behind s.instance s.choice s.goal f kept (step ∷ []) s.known g lead (next.still, (g, next.lawful, more, refl))

module _ (s : Facts) (steps : List Step) (k : ℕ) (step : Step) (inside : k < length steps) (here : step ≡ slice_index_or steps k step) where
  first_of : drop k steps ≡ step ∷ drop (k + 1) steps
  first_of = drop_more steps k step inside ∙ ap (λ (x : Step). x ∷ drop (k + 1) steps) (sym here)

  -- the next of steps that lead to the end, and those behind it
  pub end_next : LeadsToEnd s (drop k steps) → (g : Known) × IsNext s step g × LeadsToEnd (after s g) (drop (k + 1) steps)
  end_next leads =
      let led : LeadsToEnd s (step ∷ drop (k + 1) steps) = subst (LeadsToEnd s) first_of leads in
      (led.1.1.0, record { still = led.1.0; lawful = led.1.1.1 }, (led.0, led.1.1.2, led.2))
