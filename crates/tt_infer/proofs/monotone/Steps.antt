-- Each step leads as far inside, or asks for a round where a message has none left; and so do lists of steps.
use Rattle.std.proofs.Common.{◌⊎◌, List, [], ◌∷◌, IsFalse, inl, inr, refl, ap, ◌∙◌}
use Rattle.ttp_model.specs.declared.step.Step.{Step}
use Rattle.sought_plans.specs.Known.{Known}
use Rattle.sought_plans.specs.Conclusions.{NothingLeft, sharpened}
use Rattle.tt_infer.specs.Table.{IsLawful}
use Rattle.tt_infer.specs.Sharper.{LeadsAsFar, MissesRound, LeadAsFar, LeadToClose}
use Rattle.tt_infer.specs.Leaves.{Lead}
use Rattle.tt_infer.proofs.Rows.{step_is_about, step_served}
use Rattle.tt_infer.proofs.Sound.{Fits-step}
use Rattle.tt_infer.proofs.monotone.Nested.{Nested, AreKnown, IsMatched}
use Rattle.tt_infer.proofs.monotone.Sharpened.{IsSharper-stronger, closed_alike}

matched_leads : (s : Nested) (f h : Known) (step : Step) (g : Known) → AreKnown s f h → (lawful : IsLawful s.instance s.outer s.goal f step g) → IsMatched s h step lawful.conclusion → LeadsAsFar s.instance s.inner s.aim h step g
matched_leads s f h step g t lawful match =
    let about = step_is_about s.instance s.outer s.goal f step lawful.conclusion s.is_instance lawful.there lawful.premise lawful.concludes in
    record {
      known = sharpened s.instance h match.conclusion;
      lawful = record { there = match.there; premise = match.premise; conclusion = match.conclusion; concludes = match.concludes; known = refl };
      sharper = rw lawful.known (IsSharper-stronger s.instance f h match.conclusion lawful.conclusion t.fits t.inner_fits t.sharper about match.stronger);
      closed = rw lawful.known (closed_alike s.instance f h match.conclusion lawful.conclusion t.closed match.stronger);
    }

pub step_leads_as_far : (s : Nested) (f h : Known) (step : Step) (g : Known) → AreKnown s f h → IsLawful s.instance s.outer s.goal f step g → LeadsAsFar s.instance s.inner s.aim h step g ⊎ MissesRound s.instance s.inner s.aim h step
step_leads_as_far s f h step g t lawful = elim (step_served s f h step t) [
  | inl kept ↦ inl (matched_leads s f h step g t lawful (kept lawful.conclusion lawful.there lawful.premise lawful.concludes))
  | inr misses ↦ inr misses
]

known_after : (s : Nested) (f h : Known) (step : Step) (g : Known) → AreKnown s f h → IsLawful s.instance s.outer s.goal f step g → (on : LeadsAsFar s.instance s.inner s.aim h step g) → AreKnown s g on.known
known_after s f h step g t lawful on = record {
  fits = Fits-step s.instance s.outer s.goal f step g t.fits lawful;
  inner_fits = Fits-step s.instance s.inner s.aim h step on.known t.inner_fits on.lawful;
  sharper = on.sharper;
  closed = on.closed;
}

-- one more step before others
one_more : (s : Nested) (h : Known) (step : Step) (steps : List Step) (middle g : Known) → IsFalse h.closed → (on : LeadsAsFar s.instance s.inner s.aim h step middle) → LeadAsFar s.instance s.inner s.aim on.known steps g → LeadAsFar s.instance s.inner s.aim h (step ∷ steps) g
one_more s h step steps middle g left on rest = record { known = rest.known; lead = (left, (on.known, on.lawful, rest.lead)); sharper = rest.sharper; closed = rest.closed }

one_more_to_close : (s : Nested) (h : Known) (step : Step) (steps : List Step) (middle : Known) → IsFalse h.closed → (on : LeadsAsFar s.instance s.inner s.aim h step middle) → LeadToClose s.instance s.inner s.aim on.known steps → LeadToClose s.instance s.inner s.aim h (step ∷ steps)
one_more_to_close s h step steps middle left on rest = record {
  first = step ∷ rest.first;
  next = rest.next;
  others = rest.others;
  parts = ap (λ more. step ∷ more) rest.parts;
  asks = rest.asks;
  message = rest.message;
  known = rest.known;
  lead = (left, (on.known, on.lawful, rest.lead));
  closed = rest.closed;
}

close_here : (s : Nested) (h : Known) (step : Step) (steps : List Step) → IsFalse h.closed → MissesRound s.instance s.inner s.aim h step → LeadToClose s.instance s.inner s.aim h (step ∷ steps)
close_here s h step steps left misses = record {
  first = [];
  next = step;
  others = steps;
  parts = refl;
  asks = misses.asks;
  message = misses.message;
  known = sharpened s.instance h NothingLeft;
  lead = (left, (sharpened s.instance h NothingLeft, misses.lawful, refl));
  closed = refl;
}

pub steps_lead_as_far : (s : Nested) (f h : Known) (steps : List Step) (g : Known) → AreKnown s f h → Lead s.instance s.outer s.goal f steps g → LeadAsFar s.instance s.inner s.aim h steps g ⊎ LeadToClose s.instance s.inner s.aim h steps
steps_lead_as_far s f h [] g t lead = inl (record { known = h; lead = refl; sharper = rw lead t.sharper; closed = rw lead t.closed })
steps_lead_as_far s f h (step ∷ steps) g t lead =
    let left : IsFalse h.closed = t.closed ∙ lead.0 in
    elim (step_leads_as_far s f h step lead.1.0 t lead.1.1) [
      | inr misses ↦ inr (close_here s h step steps left misses)
      | inl on ↦ elim (steps_lead_as_far s lead.1.0 on.known steps g (known_after s f h step lead.1.0 t lead.1.1 on) lead.1.2) [
        | inl rest ↦ inl (one_more s h step steps lead.1.0 g left on rest)
        | inr rest ↦ inr (one_more_to_close s h step steps lead.1.0 left on rest)
      ]
    ]
