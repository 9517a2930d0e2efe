-- Lawful steps one after another keep the facts true, so a leaf that closes a choice leaves no plan in it.
use Rattle.std.proofs.Common.{◌≡◌, ℕ, List, [], ◌∷◌, ◌++◌, refl}
use Rattle.std.proofs.lemmas.Bool.{both_ways}
use Rattle.ttp_model.specs.declared.plan.Plan.{Plan}
use Rattle.ttp_model.specs.declared.step.Step.{Step}
use Rattle.ttp_model.specs.declared.step.Leaf.{Leaf}
use Rattle.ttp_model.specs.Instance.{Instance}
use Rattle.ttp_model.specs.Rules.{IsInstance}
use Rattle.tt_choice.specs.Choice.{Choice, IsChoice}
use Rattle.sought_plans.specs.Known.{Known, Fits, IsSought, Hold, first_facts}
use Rattle.tt_infer.specs.Leaves.{Lead, ClosesLeaf}
use Rattle.tt_infer.specs.declared.fault.StepFault.{StepFault}
use Rattle.tt_infer.specs.Answers.{IsStepFault}
use Rattle.tt_infer.proofs.Determined.{fault-not_lawful, Lead-determined}
use Rattle.tt_infer.proofs.Sound.{Fits-step, Hold-step}
use Rattle.tt_infer.proofs.FirstFacts.{first_facts_fit, first_facts_hold}

pub Hold-Lead : (i : Instance) (c : Choice) (goal : ℕ) (f : Known) (steps : List Step) (g : Known) → IsInstance i → IsChoice i c → Fits i f → Lead i c goal f steps g → Hold i c goal f → Fits i g × Hold i c goal g
Hold-Lead i c goal f [] g w ok fits lead holds = rw lead (fits, holds)
Hold-Lead i c goal f (step ∷ steps) g w ok fits lead holds =
    let next = lead.1.0 in
    let lawful = lead.1.1 in
    Hold-Lead i c goal next steps g w ok (Fits-step i c goal f step next fits lawful) lead.1.2 (Hold-step i c goal f step next w ok fits lawful holds)

pub leaf_leaves_none : (i : Instance) (c : Choice) (leaf : Leaf) → IsInstance i → IsChoice i c → ClosesLeaf i c leaf → (plan : Plan) → ¬ IsSought i c leaf.goal plan
leaf_leaves_none i c leaf w ok closes plan sought =
    let kept = Hold-Lead i c leaf.goal (first_facts i c) leaf.steps closes.0 w ok (first_facts_fit i c ok) closes.1 (first_facts_hold i c leaf.goal ok) in
    absurd (both_ways _ (kept.1 plan sought).some_left closes.2)

-- Steps can be told in two parts.
pub Lead-append : (i : Instance) (c : Choice) (goal : ℕ) (f : Known) (steps others : List Step) (g h : Known) → Lead i c goal f steps g → Lead i c goal g others h → Lead i c goal f (steps ++ others) h
Lead-append i c goal f [] others g h first second = rw (← first) second
Lead-append i c goal f (step ∷ steps) others g h first second = (first.0, (first.1.0, first.1.1, Lead-append i c goal first.1.0 steps others g h first.1.2 second))

pub Lead-split : (i : Instance) (c : Choice) (goal : ℕ) (f : Known) (steps others : List Step) (h : Known) → Lead i c goal f (steps ++ others) h → (g : Known) × Lead i c goal f steps g × Lead i c goal g others h
Lead-split i c goal f [] others h lead = (f, refl, lead)
Lead-split i c goal f (step ∷ steps) others h lead =
    let rest = Lead-split i c goal lead.1.0 steps others h lead.1.2 in
    (rest.0, (lead.0, (lead.1.0, lead.1.1, rest.1)), rest.2)

-- steps lead nowhere past one that is refused where the steps before it lead
pub fault-no_Lead : (i : Instance) (c : Choice) (goal : ℕ) (f : Known) (steps : List Step) (g : Known) (step : Step) (fault : StepFault) (others : List Step) (h : Known) → Lead i c goal f steps g → IsStepFault i c goal g step fault → ¬ Lead i c goal f (steps ++ step ∷ others) h
fault-no_Lead i c goal f steps g step fault others h lead is past =
    let cut = Lead-split i c goal f steps (step ∷ others) h past in
    let same : cut.0 ≡ g = Lead-determined i c goal f steps cut.0 g cut.1 lead in
    fault-not_lawful i c goal cut.0 step cut.2.1.0 fault (rw same is) cut.2.0 cut.2.1.1
