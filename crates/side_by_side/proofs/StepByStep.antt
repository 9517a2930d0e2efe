-- A leaf that went down, step by step: it goes along, is cut short, or closes.
use Rattle.std.proofs.Common.{◌≡◌, ℕ, ◌+◌, ◌<◌, ◌≤◌, List, [], ◌∷◌, ◌++◌, length, slice_index_or, take, drop, inl, refl, sym, ap, subst, ◌∙◌}
use Rattle.std.proofs.lemmas.List.{drop_more, drop_all, take_all, take-append-drop, get_or_read}
use Rattle.ttp_model.specs.declared.step.Step.{Step}
use Rattle.ttp_model.specs.declared.step.Step.TheVariants.{XRound}
use Rattle.ttp_model.specs.declared.step.Leaf.{Leaf}
use Rattle.ttp_model.specs.Instance.{Instance}
use Rattle.ttp_model.specs.Rules.{IsInstance}
use Rattle.tt_choice.specs.Choice.{Choice, IsChoice}
use Rattle.sought_plans.specs.Known.{Known, first_facts}
use Rattle.tt_infer.specs.declared.fault.StepFault.{StepFault}
use Rattle.tt_infer.specs.Answers.{IsStepFault}
use Rattle.tt_infer.specs.Table.{IsLawful}
use Rattle.tt_infer.specs.Leaves.{Lead}
use Rattle.tt_infer.specs.Facts.{Facts}
use Rattle.tt_infer.proofs.Determined.{fault-not_lawful}
use Rattle.side_by_side.specs.Standing.{IsFirstUnsent, IsCutShort, StandsAs}
use Rattle.side_by_side.specs.Copies.{MayBeCut}
use Rattle.side_by_side.proofs.Along.{GoesAlong, along_more, along_left, along_misses, along_closed}

-- the steps from a place on begin with the one there
from_step : (steps : List Step) (k : ℕ) (step : Step) → k < length steps → step ≡ slice_index_or steps k step → drop k steps ≡ step ∷ drop (k + 1) steps
from_step steps k step inside here = drop_more steps k step inside ∙ ap (λ (s : Step). s ∷ drop (k + 1) steps) (sym here)

-- a leaf with its steps before a place, and the closer on the rounds of the first message that has none left
pub cut_there : (facts : Facts) (leaf here : Leaf) (place message : ℕ) → MayBeCut facts leaf place → IsFirstUnsent facts.instance facts.known message
    → here ≡ record { goal = leaf.goal; steps = take place leaf.steps ++ XRound message ∷ [] } → IsCutShort facts.instance facts.choice leaf here
cut_there facts leaf here place message may unsent is = record {
  before = take place leaf.steps;
  step = slice_index_or leaf.steps place (XRound 0);
  after = drop (place + 1) leaf.steps;
  steps_are =
      sym (take-append-drop place leaf.steps)
      ∙ ap (λ (rest : List Step). take place leaf.steps ++ rest) (drop_more leaf.steps place (XRound 0) may.inside);
  known = facts.known;
  lead = may.lead;
  left = may.left;
  refused = may.refused;
  message = message;
  unsent = unsent;
  here_is = is;
}

module _ (i : Instance) (c : Choice) (leaf : Leaf) (w : IsInstance i) (ok : IsChoice i c) (steps : List Step) (steps_are : steps ≡ leaf.steps) where
  module _ (k : ℕ) (step : Step) (f : Known) (inside : k < length steps) (here : step ≡ slice_index_or steps k step)
      (along : GoesAlong i c leaf.goal (drop k steps) f) where
    there : GoesAlong i c leaf.goal (step ∷ drop (k + 1) steps) f
    there = subst (λ (xs : List Step). GoesAlong i c leaf.goal xs f) (from_step steps k step inside here) along

    pub goes_on : (next : Known) → IsLawful i c leaf.goal f step next → GoesAlong i c leaf.goal (drop (k + 1) steps) next
    goes_on next lawful = along_more i c leaf.goal w ok step (drop (k + 1) steps) f next there lawful

    pub may_be_cut : (fault : StepFault) → Lead i c leaf.goal (first_facts i c) (take k steps) f → IsStepFault i c leaf.goal f step fault
        → MayBeCut (record { instance = i; choice = c; goal = leaf.goal; known = f }) leaf k
    may_be_cut fault lead is =
        let left = along_left i c leaf.goal w ok step (drop (k + 1) steps) f there in
        let refused : (next : Known) → ¬ IsLawful i c leaf.goal f step next = λ next. fault-not_lawful i c leaf.goal f step next fault is left in
        let misses = along_misses i c leaf.goal w ok step (drop (k + 1) steps) f there refused in
        let own : step ≡ slice_index_or leaf.steps k (XRound 0) = subst (λ (xs : List Step). step ≡ slice_index_or xs k (XRound 0)) steps_are
        (get_or_read steps k step inside here (XRound 0)) in
        record {
          inside = subst (λ (xs : List Step). k < length xs) steps_are inside;
          goal = refl;
          lead = subst (λ (xs : List Step). Lead i c leaf.goal (first_facts i c) (take k xs) f) steps_are lead;
          left = left;
          refused = subst (λ (s : Step). (next : Known) → ¬ IsLawful i c leaf.goal f s next) own refused;
          message = misses.0;
          there = misses.1;
          none_left = misses.2;
        }

  pub stands_whole : (k : ℕ) (f : Known) (here : Leaf) → length steps ≤ k → Lead i c leaf.goal (first_facts i c) (take k steps) f
      → GoesAlong i c leaf.goal (drop k steps) f → here ≡ leaf → StandsAs i c leaf here
  stands_whole k f here past lead along same =
      let whole : take k steps ≡ leaf.steps = take_all k steps past ∙ steps_are in
      let closed = along_closed i c leaf.goal w ok f (subst (λ (xs : List Step). GoesAlong i c leaf.goal xs f) (drop_all k steps past) along) in
      inl (same, (f, subst (λ (xs : List Step). Lead i c leaf.goal (first_facts i c) xs f) whole lead, closed))
