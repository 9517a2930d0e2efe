-- A leaf that stands at a choice closes it, with its own goal.
use Rattle.std.proofs.Common.{◌≡◌, ℕ, [], ◌∷◌, ◌++◌, inl, inr, refl, sym, ap, subst}
use Rattle.ttp_model.specs.declared.step.Step.TheVariants.{XRound}
use Rattle.ttp_model.specs.declared.step.Leaf.{Leaf}
use Rattle.ttp_model.specs.Instance.{Instance}
use Rattle.tt_choice.specs.Choice.{Choice}
use Rattle.sought_plans.specs.Known.{Known, first_facts}
use Rattle.sought_plans.specs.Conclusions.{NothingLeft, sharpened}
use Rattle.tt_infer.specs.Table.{IsLawful}
use Rattle.tt_infer.specs.Leaves.{ClosesLeaf}
use Rattle.tt_infer.proofs.Leaves.{Lead-append}
use Rattle.side_by_side.specs.Standing.{IsFirstUnsent, IsCutShort, StandsAs}

-- the closer on a message's rounds is lawful where it has none left
pub unsent_closes : (i : Instance) (c : Choice) (goal : ℕ) (f : Known) (m : ℕ) → IsFirstUnsent i f m
    → IsLawful i c goal f (XRound m) (sharpened i f NothingLeft)
unsent_closes i c goal f m unsent = record {
  there = unsent.message;
  premise = unsent.none_left;
  conclusion = NothingLeft;
  concludes = refl;
  known = refl;
}

pub cut_closes : (i : Instance) (c : Choice) (leaf here : Leaf) → IsCutShort i c leaf here → ClosesLeaf i c here
cut_closes i c leaf here cut =
    let closed = sharpened i cut.known NothingLeft in
    let lawful = unsent_closes i c leaf.goal cut.known cut.message cut.unsent in
    let made : Leaf = record { goal = leaf.goal; steps = cut.before ++ XRound cut.message ∷ [] } in
    let closes : ClosesLeaf i c made = (
      closed,
      Lead-append i c leaf.goal (first_facts i c) cut.before (XRound cut.message ∷ []) cut.known closed cut.lead (cut.left, (closed, lawful, refl)),
      refl,
    ) in
    subst (ClosesLeaf i c) (sym cut.here_is) closes

pub stands_closes : (i : Instance) (c : Choice) (leaf here : Leaf) → StandsAs i c leaf here → ClosesLeaf i c here
stands_closes i c leaf here stands = elim stands [
  | inl same ↦ subst (ClosesLeaf i c) (sym same.0) same.1
  | inr cut ↦ cut_closes i c leaf here cut
]

pub stands_goal : (i : Instance) (c : Choice) (leaf here : Leaf) → StandsAs i c leaf here → here.goal ≡ leaf.goal
stands_goal i c leaf here stands = elim stands [
  | inl same ↦ ap (λ (l : Leaf). l.goal) same.0
  | inr cut ↦ ap (λ (l : Leaf). l.goal) cut.here_is
]
