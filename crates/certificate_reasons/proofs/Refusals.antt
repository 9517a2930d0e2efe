-- Where a step of a leaf is refused: the steps before it lead there.
use Rattle.std.proofs.Common.{◌≡◌, ◌∙◌, ℕ, ◌<◌, List, ◌∷◌, ◌++◌, ap, arith, drop, length, slice_index_or, subst, sym, take}
use Rattle.std.proofs.Math.Seq.{drop-append_seam, take-append_seam}
use Rattle.std.proofs.lemmas.List.{length-append}
use Rattle.ttp_model.specs.declared.step.Step.{Step}
use Rattle.ttp_model.specs.Instance.{Instance}
use Rattle.tt_choice.specs.Choice.{Choice}
use Rattle.sought_plans.specs.Known.{Known, first_facts}
use Rattle.tt_infer.specs.declared.fault.StepFault.{StepFault}
use Rattle.tt_infer.specs.Answers.{IsStepFault}
use Rattle.tt_infer.specs.Leaves.{Lead}
use Rattle.tt_infer.proofs.Determined.{Lead-determined}
use Rattle.tree_check.specs.Faults.{IsRefusedAt}
use Rattle.certificate_reasons.specs.declared.refused.RefusedStep.{RefusedStep}
use Rattle.certificate_reasons.specs.Refused.{IsRefusal, IsRefusedStep}
use Rattle.certificate_reasons.specs.Rules.{rule_of}

module _ (i : Instance) (c : Choice) (goal : ℕ) (steps : List Step) (place : ℕ) (r : IsRefusedAt i c goal steps place) where
  front_is : take place steps ≡ r.before
  front_is = rw (r.steps_are, ← r.place_is) (take-append_seam r.before (r.step ∷ r.after))

  back_is : drop place steps ≡ r.step ∷ r.after
  back_is = rw (r.steps_are, ← r.place_is) (drop-append_seam r.before (r.step ∷ r.after))

  pub place_inside : place < length steps
  place_inside =
      let size = ap (λ (xs : List Step). length xs) r.steps_are ∙ length-append r.before (r.step ∷ r.after) in
      omega (arith, size, r.place_is)

  module _ (front back : List Step) (front_of : front ≡ take place steps) (back_of : back ≡ drop place steps) where
    pub before_leads : (g : Known) × Lead i c goal (first_facts i c) front g
    before_leads = (r.known, subst (λ (xs : List Step). Lead i c goal (first_facts i c) xs r.known) (sym (front_of ∙ front_is)) r.lead)

    pub some_behind : 0 < length back
    some_behind =
        let size = ap (λ (xs : List Step). length xs) (back_of ∙ back_is) in
        omega (arith, size)

    module _ (known : Known) (lead : Lead i c goal (first_facts i c) front known) (step : Step) (here : step ≡ slice_index_or back 0 step) where
      step_is : step ≡ r.step
      step_is = here ∙ ap (λ (xs : List Step). slice_index_or xs 0 step) (back_of ∙ back_is)

      known_is : known ≡ r.known
      known_is =
          Lead-determined i c goal (first_facts i c) r.before known r.known
          (subst (λ (xs : List Step). Lead i c goal (first_facts i c) xs known) (front_of ∙ front_is) lead) r.lead

      pub refused_there : (fault : StepFault) × IsStepFault i c goal known step fault
      refused_there = (r.fault, rw (known_is, step_is) r.refused)

      pub refused_told : (x : RefusedStep) → x.rule ≡ rule_of step → IsRefusal i c goal known step x.why → IsRefusedStep i c goal steps place x
      refused_told x rule why = record {
        before = front;
        step = step;
        after = r.after;
        steps_are = r.steps_are ∙ ap (λ (xs : List Step). xs ++ r.step ∷ r.after) (sym (front_of ∙ front_is))
            ∙ ap (λ (s : Step). front ++ s ∷ r.after) (sym step_is);
        place_is = ap (λ (xs : List Step). length xs) (front_of ∙ front_is) ∙ r.place_is;
        known = known;
        lead = lead;
        rule_is = rule;
        why_is = why;
      }
