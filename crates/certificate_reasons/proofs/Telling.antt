-- Lawful steps are told one after another.
use Rattle.std.proofs.Common.{◌≡◌, ◌∙◌, ℕ, ◌+◌, ◌<◌, List, [], ◌∷◌, ◌++◌, IsFalse, ap, drop, length, refl, slice_index_or, subst, sym, take}
use Rattle.std.proofs.lemmas.List.{drop_more, take_more}
use Rattle.ttp_model.specs.declared.step.Step.{Step}
use Rattle.ttp_model.specs.Instance.{Instance}
use Rattle.tt_choice.specs.Choice.{Choice}
use Rattle.sought_plans.specs.Known.{Known}
use Rattle.tt_infer.specs.Table.{IsLawful}
use Rattle.tt_infer.specs.Leaves.{Lead}
use Rattle.tt_infer.proofs.Leaves.{Lead-append}
use Rattle.certificate_reasons.specs.declared.steps.ToldStep.{ToldStep}
use Rattle.certificate_reasons.specs.Leaves.{AreStepsTold}
use Rattle.certificate_reasons.specs.Steps.{IsToldStep}

-- one step more
told_one : (i : Instance) (c : Choice) (goal : ℕ) (f : Known) (steps : List Step) (g : Known) (told : List ToldStep) (step : Step) (h : Known) (x : ToldStep)
    → AreStepsTold i c goal f steps g told → IsLawful i c goal g step h → IsToldStep i c goal g h step x
    → AreStepsTold i c goal f (steps ++ step ∷ []) h (told ++ x ∷ [])
told_one i c goal f [] g [] step h x are lawful is =
    (h, subst (λ (k : Known). IsLawful i c goal k step h) are lawful, subst (λ (k : Known). IsToldStep i c goal k h step x) are is, refl)
told_one i c goal f [] g (y ∷ told) step h x are lawful is = absurd are
told_one i c goal f (first ∷ steps) g [] step h x are lawful is = absurd are
told_one i c goal f (first ∷ steps) g (y ∷ told) step h x are lawful is =
    (are.0, are.1, are.2, told_one i c goal are.0 steps g told step h x are.3 lawful is)

-- so many, and then the next one
pub told_more : (i : Instance) (c : Choice) (goal : ℕ) (f : Known) (steps : List Step) (k : ℕ) (step : Step) (g h : Known) (told new : List ToldStep) (x : ToldStep)
    → k < length steps → step ≡ slice_index_or steps k step → AreStepsTold i c goal f (take k steps) g told → IsLawful i c goal g step h
    → IsToldStep i c goal g h step x → new ≡ told ++ x ∷ [] → AreStepsTold i c goal f (take (k + 1) steps) h new
told_more i c goal f steps k step g h told new x inside here are lawful is more =
    rw (more, take_more steps k step inside, ← here) (told_one i c goal f (take k steps) g told step h x are lawful is)

-- the next one of lawful steps
pub Lead-next : (i : Instance) (c : Choice) (goal : ℕ) (f : Known) (steps : List Step) (k : ℕ) (step : Step) (g : Known) → k < length steps
    → step ≡ slice_index_or steps k step → Lead i c goal f (drop k steps) g → IsFalse f.closed × ((next : Known) × IsLawful i c goal f step next
    × Lead i c goal next (drop (k + 1) steps) g)
Lead-next i c goal f steps k step g inside here lead =
    let is : drop k steps ≡ step ∷ drop (k + 1) steps = drop_more steps k step inside ∙ ap (λ (s : Step). s ∷ drop (k + 1) steps) (sym here) in
    subst (λ (rest : List Step). Lead i c goal f rest g) is lead

-- one step more that leads on
pub Lead-more : (i : Instance) (c : Choice) (goal : ℕ) (first : Known) (steps : List Step) (k : ℕ) (step : Step) (f g : Known) → k < length steps
    → step ≡ slice_index_or steps k step → Lead i c goal first (take k steps) f → IsFalse f.closed → IsLawful i c goal f step g
    → Lead i c goal first (take (k + 1) steps) g
Lead-more i c goal first steps k step f g inside here lead still lawful =
    rw (take_more steps k step inside, ← here) (Lead-append i c goal first (take k steps) (step ∷ []) f g lead (still, (g, lawful, refl)))
