-- A log leads as far with one order more, and to what it led to with that order.
use Rattle.std.proofs.Common.{◌≡◌, ◌≢◌, ℕ, suc, List, [], ◌∷◌, Contains, IsFalse, Result, Ok, Err, IfOk, arith, inl, inr, refl, ap, subst, sym, ◌∙◌}
use Rattle.std.proofs.lemmas.Bool.{cases_Bool, both_ways}
use Rattle.ttp_model.specs.declared.error.MemoryFault.{MemoryFault}
use Rattle.ttp_model.specs.declared.step.Step.{Step}
use Rattle.ttp_model.specs.declared.step.Step.TheVariants.{UsSettled}
use Rattle.ttp_model.specs.Instance.{Instance}
use Rattle.ttp_model.specs.Rules.{IsInstance}
use Rattle.tt_choice.specs.Choice.{Choice, ArePair}
use Rattle.tt_choice.specs.declared.decision.Decision.{Decision}
use Rattle.tt_choice.specs.declared.decision.Decision.TheVariants.{Before}
use Rattle.tt_choice.specs.Branches.{order_pair, IsUnorderedPair}
use Rattle.tt_choice.specs.Decisions.{choice_after, IsOpenDecision}
use Rattle.tt_infer.specs.Known.{Known, Fits, bef_of, first_facts}
use Rattle.tt_infer.specs.Facts.{Facts, AreFacts}
use Rattle.tt_infer.proofs.FirstFacts.{first_facts_fit}
use Rattle.tt_infer.proofs.Sharper.{IsSharper-step}
use Rattle.tt_infer.proofs.Sound.{Fits-step}
use Rattle.step_logs.specs.Journal.{Journal}
use Rattle.tt_infer.specs.Leaves.{LeadSharply}
use Rattle.step_logs.specs.Propagator.{FollowsFrom}
use Rattle.step_logs.proofs.one_order.Known.{ordered, same_unordered}
use Rattle.step_logs.proofs.one_order.Rules.{lawful_ordered}

-- a list without an element
not_first : (step other : Step) (steps : List Step) → ¬ Contains (step ∷ steps) other → step ≢ other
not_first step other steps none same = none (0, omega arith, same)

not_later : (step other : Step) (steps : List Step) → ¬ Contains (step ∷ steps) other → ¬ Contains steps other
not_later step other steps none is = none (suc is.0, omega (arith, is.1), is.2)

module _ (i : Instance) (c : Choice) (goal p q : ℕ) (w : IsInstance i) (pair : ArePair i p q) where
  -- what isn't known in the end wasn't known before
  not_yet : (f : Known) (steps : List Step) (g : Known) → Fits i f → LeadSharply i c goal f steps g → IsFalse (bef_of g p q) → IsFalse (bef_of f p q)
  not_yet f [] g fits lead unknown = sym (ap (λ (k : Known). bef_of k p q) lead) ∙ unknown
  not_yet f (step ∷ steps) g fits lead unknown =
      let next = lead.1.0 in
      let later = not_yet next steps g (Fits-step i c goal f step next fits lead.1.1) lead.1.3 unknown in
      elim (cases_Bool (bef_of f p q)) [
        | inl known ↦ absurd (both_ways _ later ((IsSharper-step i c goal f step next w fits lead.1.1).bef p q known))
        | inr not ↦ not
      ]

  pub lead_ordered : (f : Known) (steps : List Step) (g : Known) → Fits i f → ¬ Contains steps (UsSettled p) → LeadSharply i c goal f steps g → IsFalse (bef_of g p q) → LeadSharply i (order_pair c p q) goal (ordered f p q) steps (ordered g p q)
  lead_ordered f [] g fits none lead unknown = ap (λ (k : Known). ordered k p q) lead
  lead_ordered f (step ∷ steps) g fits none lead unknown =
      let next = lead.1.0 in
      let lawful = lead.1.1 in
      let fits_next = Fits-step i c goal f step next fits lawful in
      let before = not_yet f (step ∷ steps) g fits lead unknown in
      let after = not_yet next steps g fits_next lead.1.3 unknown in (
        lead.0,
        (
          ordered next p q,
          lawful_ordered i c goal f p q pair fits step next (not_first step (UsSettled p) steps none) before lawful,
          (λ same. lead.1.2 (same_unordered i f next p q pair fits fits_next before after same)),
          lead_ordered next steps g fits_next (not_later step (UsSettled p) steps none) lead.1.3 unknown,
        ),
      )

-- so does one that began with the first facts
pub follows_ordered : (s : Facts) (steps : List Step) (p q : ℕ) → AreFacts s → ArePair s.instance p q → ¬ Contains steps (UsSettled p) → IsFalse (bef_of s.known p q) → FollowsFrom s.instance s.choice s.goal (record { facts = s; steps = steps }) → FollowsFrom s.instance (order_pair s.choice p q) s.goal (record { facts = record { instance = s.instance; choice = order_pair s.choice p q; goal = s.goal; known = ordered s.known p q }; steps = steps })
follows_ordered s steps p q are pair none unknown follows =
    let lead : LeadSharply s.instance s.choice s.goal (first_facts s.instance s.choice) steps s.known = rw follows.steps follows.lead in
    record {
      more = steps;
      facts = refl;
      steps = refl;
      lead = lead_ordered s.instance s.choice s.goal p q are.instance pair (first_facts s.instance s.choice) steps s.known (first_facts_fit s.instance s.choice are.choice) none lead unknown;
    }

-- so after a decision on what a log is about
pub carried_ordered : (level : Journal) (d : Decision) (p q : ℕ) (answer : Result Journal MemoryFault) → d ≡ Before p q → AreFacts level.facts → IsOpenDecision level.facts.instance level.facts.choice d → ¬ Contains level.steps (UsSettled p) → IsFalse (bef_of level.facts.known p q) → FollowsFrom level.facts.instance level.facts.choice level.facts.goal level → IfOk answer (λ log. log ≡ record { facts = record { instance = level.facts.instance; choice = order_pair level.facts.choice p q; goal = level.facts.goal; known = ordered level.facts.known p q }; steps = level.steps }) → IfOk answer (FollowsFrom level.facts.instance (choice_after level.facts.instance level.facts.choice d) level.facts.goal)
carried_ordered level d p q (Err fault) is are is_open none unknown follows made = made
carried_ordered level d p q (Ok log) is are is_open none unknown follows made =
    let pair : IsUnorderedPair level.facts.instance level.facts.choice p q = subst (λ (x : Decision). IsOpenDecision level.facts.instance level.facts.choice x) is is_open in
    rw (is, made) (follows_ordered level.facts level.steps p q are pair.pair none unknown follows)
