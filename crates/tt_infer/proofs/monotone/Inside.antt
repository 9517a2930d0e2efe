-- The law on steps inside a choice, put together from its parts.
use Rattle.std.proofs.Common.{◌≡◌, ℕ, ◌≤◌, ◌⊎◌, List, IsFalse, inl, inr, sym, ◌∙◌, refl}
use Rattle.std.proofs.lemmas.Bool.{cases_Bool, both_ways}
use Rattle.ttp_model.specs.declared.step.Step.{Step}
use Rattle.ttp_model.specs.declared.step.Leaf.{Leaf}
use Rattle.ttp_model.specs.Instance.{Instance}
use Rattle.ttp_model.specs.Rules.{IsInstance}
use Rattle.tt_choice.specs.Choice.{Choice, IsChoice}
use Rattle.tt_choice.specs.Inside.{IsInside}
use Rattle.sought_plans.specs.Known.{Known, Fits, first_facts}
use Rattle.tt_infer.specs.Leaves.{Lead, ClosesLeaf}
use Rattle.tt_infer.specs.Sharper.{IsSharper, LeadsAsFar, MissesRound, LeadAsFar, LeadToClose}
use Rattle.tt_infer.specs.Table.{IsLawful}
use Rattle.tt_infer.proofs.FirstFacts.{first_facts_fit}
use Rattle.tt_infer.proofs.monotone.Nested.{Nested}
use Rattle.tt_infer.proofs.monotone.FirstFacts.{first_facts_sharper}
use Rattle.tt_infer.proofs.monotone.Steps.{step_leads_as_far, steps_lead_as_far}

-- where a plan may be left inside, one may be left outside
closed_too : (f h : Known) → IsSharper f h → IsFalse h.closed → h.closed ≡ f.closed
closed_too f h sharper left = elim (cases_Bool f.closed) [
  | inl is ↦ absurd (both_ways _ left (sharper.closed is))
  | inr not ↦ left ∙ sym not
]

abbrev nested : (i : Instance) (inner outer : Choice) (aim goal : ℕ) → IsInstance i → IsChoice i inner → IsChoice i outer → IsInside i inner outer → aim ≤ goal → Nested
nested i inner outer aim goal w well ok inside le = record {
  instance = i;
  outer = outer;
  goal = goal;
  inner = inner;
  aim = aim;
  is_instance = w;
  is_choice = ok;
  is_inner_choice = well;
  inside = inside;
  no_larger = le;
}

pub step_inside : (i : Instance) (inner outer : Choice) (aim goal : ℕ) (f h : Known) (step : Step) (g : Known) → IsInstance i → IsChoice i inner → IsChoice i outer → IsInside i inner outer → aim ≤ goal → Fits i f → Fits i h → IsSharper f h → IsFalse h.closed → IsLawful i outer goal f step g → LeadsAsFar i inner aim h step g ⊎ MissesRound i inner aim h step
step_inside i inner outer aim goal f h step g w well ok inside le fits inner_fits sharper left lawful =
    step_leads_as_far (nested i inner outer aim goal w well ok inside le) f h step g
    (record { fits = fits; inner_fits = inner_fits; sharper = sharper; closed = closed_too f h sharper left })
    lawful

pub steps_inside : (i : Instance) (inner outer : Choice) (aim goal : ℕ) (f h : Known) (steps : List Step) (g : Known) → IsInstance i → IsChoice i inner → IsChoice i outer → IsInside i inner outer → aim ≤ goal → Fits i f → Fits i h → IsSharper f h → IsFalse h.closed → Lead i outer goal f steps g → LeadAsFar i inner aim h steps g ⊎ LeadToClose i inner aim h steps
steps_inside i inner outer aim goal f h steps g w well ok inside le fits inner_fits sharper left lead =
    steps_lead_as_far (nested i inner outer aim goal w well ok inside le) f h steps g
    (record { fits = fits; inner_fits = inner_fits; sharper = sharper; closed = closed_too f h sharper left })
    lead

pub from_first_inside : (i : Instance) (inner outer : Choice) (aim goal : ℕ) (steps : List Step) (g : Known) → IsInstance i → IsChoice i inner → IsChoice i outer → IsInside i inner outer → aim ≤ goal → Lead i outer goal (first_facts i outer) steps g → LeadAsFar i inner aim (first_facts i inner) steps g ⊎ LeadToClose i inner aim (first_facts i inner) steps
from_first_inside i inner outer aim goal steps g w well ok inside le lead =
    steps_inside i inner outer aim goal (first_facts i outer) (first_facts i inner) steps g w well ok inside le (first_facts_fit i outer ok) (first_facts_fit i inner well) (first_facts_sharper i inner outer well ok inside) refl lead

pub leaf_inside : (i : Instance) (inner outer : Choice) (aim : ℕ) (leaf : Leaf) → IsInstance i → IsChoice i inner → IsChoice i outer → IsInside i inner outer → aim ≤ leaf.goal → ClosesLeaf i outer leaf → ClosesLeaf i inner (record { goal = aim; steps = leaf.steps }) ⊎ LeadToClose i inner aim (first_facts i inner) leaf.steps
leaf_inside i inner outer aim leaf w well ok inside le closes =
    elim (from_first_inside i inner outer aim leaf.goal leaf.steps closes.0 w well ok inside le closes.1) [
      | inl far ↦ inl (far.known, far.lead, far.closed ∙ closes.2)
      | inr ends ↦ inr ends
    ]
