-- Steps one after another, and when they close a choice. Own profile.
use Rattle.std.specs.Prelude.{◌≡◌, ◌≢◌, ℕ, List, [], ◌∷◌, IsTrue, IsFalse}
use Rattle.ttp_model.specs.declared.step.Step.{Step}
use Rattle.ttp_model.specs.declared.step.Leaf.{Leaf}
use Rattle.ttp_model.specs.Instance.{Instance}
use Rattle.tt_choice.specs.Choice.{Choice}
use Rattle.sought_plans.specs.Known.{Known, first_facts}
use Rattle.tt_infer.specs.Table.{IsLawful}

-- lawful steps lead from what is known to what is known after them, and none follows a closer
abbrev pub Lead : Instance → Choice → ℕ → Known → List Step → Known → Type 0
Lead i c goal f [] g = g ≡ f
Lead i c goal f (step ∷ steps) g =
    IsFalse f.closed × ((next : Known) × IsLawful i c goal f step next × Lead i c goal next steps g)

-- a leaf closes a choice: its steps lead at its goal from the first facts to where no plan is left
abbrev pub ClosesLeaf : Instance → Choice → Leaf → Type 0
ClosesLeaf i c leaf =
    (g : Known) × Lead i c leaf.goal (first_facts i c) leaf.steps g × IsTrue g.closed

-- the same, and each of the steps sharpens what is known
abbrev pub LeadSharply : Instance → Choice → ℕ → Known → List Step → Known → Type 0
LeadSharply i c goal f [] g = g ≡ f
LeadSharply i c goal f (step ∷ steps) g =
    IsFalse f.closed × ((next : Known) × IsLawful i c goal f step next × (next ≢ f) × LeadSharply i c goal next steps g)

-- a leaf closes a choice by steps each of which sharpens what is known
abbrev pub ClosesSharply : Instance → Choice → Leaf → Type 0
ClosesSharply i c leaf =
    (g : Known) × LeadSharply i c leaf.goal (first_facts i c) leaf.steps g × IsTrue g.closed
