-- When a leaf of a choice reads nothing of it that a wider choice doesn't say too. Own profile.
use Rattle.std.specs.Prelude.{◌≡◌, ℕ, ◌⊎◌, List, [], ◌∷◌}
use Rattle.ttp_model.specs.declared.step.Step.{Step}
use Rattle.ttp_model.specs.Instance.{Instance}
use Rattle.tt_choice.specs.Choice.{Choice}
use Rattle.sought_plans.specs.Known.{Known, first_facts}
use Rattle.tt_infer.specs.Table.{IsLawful}
use Rattle.tt_infer.specs.Targets.{target}
use Rattle.tt_infer.specs.Reads.{AgreeOn, GivesAlike, ReadsFact, ReadsLimit}
use Rattle.tt_infer.specs.declared.fact.Fact.{Fact}
use Rattle.tt_infer.specs.declared.limit.Limit.{Limit}

-- two choices say the same of a fact at first
abbrev pub SayAlike : Instance → Choice → Choice → Fact → Type 0
SayAlike i c d fact = AgreeOn (first_facts i c) (first_facts i d) fact

-- one of these steps writes a fact
abbrev pub IsWritten : Instance → List Step → Fact → Type 0
IsWritten i [] fact = ⊥
IsWritten i (step ∷ steps) fact = (fact ≡ target i step) ⊎ IsWritten i steps fact

-- Steps that are taken at a choice, behind others: of what is read there another choice says the same at first, or a step before
-- it wrote it; and of the limits that it reads the other choice gives the same.
abbrev pub ReadShared : Instance → Choice → Choice → ℕ → Known → List Step → List Step → Type 0
ReadShared i c d goal f before [] = Unit {0}
ReadShared i c d goal f before (step ∷ steps) =
    ((fact : Fact) → ReadsFact i c f step fact → SayAlike i c d fact ⊎ IsWritten i before fact)
    × ((limit : Limit) → ReadsLimit i c f step limit → GivesAlike i c goal d goal limit)
    × ((next : Known) → IsLawful i c goal f step next → ReadShared i c d goal next (step ∷ before) steps)
