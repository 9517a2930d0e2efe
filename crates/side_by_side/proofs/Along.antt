-- A leaf's steps go along at a choice inside the one that it closes, as far as they are lawful there.
use Rattle.std.proofs.Common.{◌≡◌, ℕ, ◌<◌, ◌≤◌, List, [], ◌∷◌, length, IsTrue, IsFalse, arith, inl, inr, refl, sym, ap, ◌∙◌}
use Rattle.ttp_model.specs.declared.step.Step.{Step}
use Rattle.ttp_model.specs.declared.step.Step.TheVariants.{LeSend, UsSettled}
use Rattle.ttp_model.specs.declared.step.Leaf.{Leaf}
use Rattle.ttp_model.specs.Instance.{Instance}
use Rattle.ttp_model.specs.Rules.{IsInstance}
use Rattle.tt_choice.specs.Choice.{Choice, IsChoice}
use Rattle.tt_choice.specs.Inside.{IsInside}
use Rattle.sought_plans.specs.Known.{Known, Fits, lo_of, top_of, first_facts}
use Rattle.sought_plans.specs.Conclusions.{sharpened}
use Rattle.tt_infer.specs.Table.{rule, IsLawful}
use Rattle.tt_infer.specs.Leaves.{Lead}
use Rattle.tt_infer.specs.Sharper.{IsSharper}
use Rattle.tt_infer.proofs.FirstFacts.{first_facts_fit}
use Rattle.tt_infer.proofs.Determined.{IsLawful-determined}
use Rattle.tt_infer.proofs.Sound.{Fits-step}
use Rattle.tt_infer.proofs.Rows.{step_is_about, step_served}
use Rattle.tt_infer.proofs.monotone.Nested.{Nested, AreKnown, IsKept}
use Rattle.tt_infer.proofs.monotone.Sharpened.{IsSharper-stronger, closed_alike}
use Rattle.tt_infer.proofs.monotone.Ends.{le_send_kept}
use Rattle.tt_infer.proofs.monotone.Waits.{us_settled_kept}
use Rattle.tt_infer.proofs.monotone.FirstFacts.{first_facts_sharper}
use Rattle.tt_infer.proofs.monotone.Steps.{step_leads_as_far}
use Rattle.side_by_side.specs.Standing.{ClosesAround}

-- These steps of a leaf are left at the choice around, and lead to where no plan is left; inside at least as much is known.
pub record GoesAlong (i : Instance) (c : Choice) (goal : ℕ) (steps : List Step) (h : Known) : Type 0 where
  pub outer : Choice
  pub choice : IsChoice i outer
  pub inside : IsInside i c outer
  pub known : Known
  pub last : Known
  pub lead : Lead i outer goal known steps last
  pub closed : IsTrue last.closed
  pub fits : Fits i known
  pub inner_fits : Fits i h
  pub sharper : IsSharper known h
  pub same : h.closed ≡ known.closed

pub along_first : (i : Instance) (c : Choice) (leaf : Leaf) → IsChoice i c → ClosesAround i c leaf → GoesAlong i c leaf.goal leaf.steps (first_facts i c)
along_first i c leaf ok around = record {
  outer = around.outer;
  choice = around.choice;
  inside = around.inside;
  known = first_facts i around.outer;
  last = around.closes.0;
  lead = around.closes.1;
  closed = around.closes.2;
  fits = first_facts_fit i around.outer around.choice;
  inner_fits = first_facts_fit i c ok;
  sharper = first_facts_sharper i c around.outer ok around.choice around.inside;
  same = refl;
}

-- a step whose premise holds inside concludes as much there: the two that ask for rounds have them then
kept_where_lawful : (s : Nested) (f h : Known) (step : Step) → AreKnown s f h → (rule s.instance s.inner s.aim h step).premise → IsKept s f h step
kept_where_lawful s f h (LeSend m) t premise = le_send_kept s f h m t premise
kept_where_lawful s f h (UsSettled p) t premise = us_settled_kept s f h p t premise
kept_where_lawful s f h step t premise = elim (step_served s f h step t) [
  | inl kept ↦ kept
  | inr misses ↦ absurd misses.asks
]

module _ (i : Instance) (c : Choice) (goal : ℕ) (w : IsInstance i) (ok : IsChoice i c) where
  abbrev nested : (outer : Choice) → IsChoice i outer → IsInside i c outer → Nested
  nested outer choice inside = record {
    instance = i;
    outer = outer;
    goal = goal;
    inner = c;
    aim = goal;
    is_instance = w;
    is_choice = choice;
    is_inner_choice = ok;
    inside = inside;
    no_larger = omega arith;
  }

  -- one step more, which is lawful inside
  pub along_more : (step : Step) (steps : List Step) (h next : Known) → GoesAlong i c goal (step ∷ steps) h → IsLawful i c goal h step next
      → GoesAlong i c goal steps next
  along_more step steps h next g lawful =
      let s = nested g.outer g.choice g.inside in
      let t : AreKnown s g.known h = record { fits = g.fits; inner_fits = g.inner_fits; sharper = g.sharper; closed = g.same } in
      let outside = g.lead.1.1 in
      let about = step_is_about i g.outer goal g.known step outside.conclusion w outside.there outside.premise outside.concludes in
      let match = kept_where_lawful s g.known h step t lawful.premise outside.conclusion outside.there outside.premise outside.concludes in
      let inner : IsLawful i c goal h step (sharpened i h match.conclusion) = record {
        there = match.there;
        premise = match.premise;
        conclusion = match.conclusion;
        concludes = match.concludes;
        known = refl;
      } in
      let here : next ≡ sharpened i h match.conclusion = IsLawful-determined i c goal h step next (sharpened i h match.conclusion) lawful inner in
      record {
        outer = g.outer;
        choice = g.choice;
        inside = g.inside;
        known = g.lead.1.0;
        last = g.last;
        lead = g.lead.1.2;
        closed = g.closed;
        fits = Fits-step i g.outer goal g.known step g.lead.1.0 g.fits outside;
        inner_fits = Fits-step i c goal h step next g.inner_fits lawful;
        sharper =
            rw (here, outside.known)
            (IsSharper-stronger i g.known h match.conclusion outside.conclusion g.fits g.inner_fits g.sharper about match.stronger);
        same = rw (here, outside.known) (closed_alike i g.known h match.conclusion outside.conclusion g.same match.stronger);
      }

  -- a step is left, so a plan may be
  pub along_left : (step : Step) (steps : List Step) (h : Known) → GoesAlong i c goal (step ∷ steps) h → IsFalse h.closed
  along_left step steps h g = g.same ∙ g.lead.0

  -- a step that isn't lawful inside misses a round
  pub along_misses : (step : Step) (steps : List Step) (h : Known) → GoesAlong i c goal (step ∷ steps) h
      → ((next : Known) → ¬ IsLawful i c goal h step next) → (m : ℕ) × (m < length i.messages) × (top_of h m ≤ lo_of h m)
  along_misses step steps h g refused =
      let s = nested g.outer g.choice g.inside in
      let t : AreKnown s g.known h = record { fits = g.fits; inner_fits = g.inner_fits; sharper = g.sharper; closed = g.same } in
      elim (step_leads_as_far s g.known h step g.lead.1.0 t g.lead.1.1) [
        | inl far ↦ absurd (refused far.known far.lawful)
        | inr misses ↦ (misses.message, misses.lawful.there, misses.lawful.premise)
      ]

  -- no step is left, so no plan is
  pub along_closed : (h : Known) → GoesAlong i c goal [] h → IsTrue h.closed
  along_closed h g = g.same ∙ (sym (ap (λ (f : Known). f.closed) g.lead) ∙ g.closed)
