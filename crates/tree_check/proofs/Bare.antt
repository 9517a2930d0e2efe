-- The decisions of an open branch are those of its children, whichever a choice keeps.
use Rattle.std.proofs.Common.{◌≡◌, ℕ, zero, suc, ◌+◌, List, [], ◌∷◌, length, map, refl, sym, ap, ◌∙◌}
use Rattle.std.specs.List.{range_with_len}
use Rattle.ttp_model.specs.declared.step.Kind.{Kind}
use Rattle.ttp_model.specs.Instance.{Instance}
use Rattle.tt_choice.specs.declared.decision.Decision.{Decision}
use Rattle.tt_choice.specs.Choice.{Choice, bare}
use Rattle.tt_choice.specs.Branches.{IsOpen, IsBranch, children, child, child_choices}
use Rattle.tt_choice.specs.Decisions.{choice_after, decision_of, decisions_of}
use Rattle.tt_choice.proofs.Decisions.{child_after}
use Rattle.tt_choice.proofs.Children.{child-bare}
pub use Rattle.tt_choice.proofs.Children.{IsOpen-keeping, children-bare}
use Rattle.certificate.specs.declared.branch.Branch.{Branch}

IsBranch-bare : (i : Instance) (c : Choice) (kind : Kind) (count : ℕ) → IsOpen i c kind → count ≡ children i c kind → IsBranch i (bare c) kind count
IsBranch-bare i c kind count is_open just = record {
  is_open = IsOpen-keeping i c [] kind is_open;
  just = just ∙ sym (children-bare i c kind);
}

-- the choices that a branch's decisions lead to, where none is kept, are its children
each_child : (i : Instance) (c : Choice) (kind : Kind) (a n : ℕ)
    → map (choice_after i c) (map (decision_of i c kind) (range_with_len a n)) ≡ map (child i (bare c) kind) (range_with_len a n)
each_child i c kind a zero = refl
each_child i c kind a (suc n) =
    let here : choice_after i c (decision_of i c kind a) ≡ child i (bare c) kind a = sym (child_after i c kind a) ∙ sym (child-bare i c kind a) in
    λ j. here j ∷ each_child i c kind (a + 1) n j

pub children_after : (i : Instance) (c : Choice) (kind : Kind) → map (choice_after i c) (decisions_of i c kind) ≡ child_choices i (bare c) kind
children_after i c kind =
    each_child i c kind 0 (children i c kind) ∙ ap (λ (n : ℕ). map (child i (bare c) kind) (range_with_len 0 n)) (sym (children-bare i c kind))

length-mapped : {A B : Type 0} (f : A → B) (xs : List A) → length (map f xs) ≡ length xs
length-mapped f [] = refl
length-mapped f (x ∷ xs) = ap suc (length-mapped f xs)

length-counted : (a n : ℕ) → length (range_with_len a n) ≡ n
length-counted a zero = refl
length-counted a (suc n) = ap suc (length-counted (a + 1) n)

pub length-decisions_of : (i : Instance) (c : Choice) (kind : Kind) → length (decisions_of i c kind) ≡ children i c kind
length-decisions_of i c kind = length-mapped (decision_of i c kind) (range_with_len 0 (children i c kind)) ∙ length-counted 0 (children i c kind)

pub branch_suits : (i : Instance) (c : Choice) (branch : Branch) (decisions : List Decision) → IsOpen i c branch.kind
    → decisions ≡ decisions_of i c branch.kind → length decisions ≡ branch.children → IsBranch i (bare c) branch.kind branch.children
branch_suits i c branch decisions is_open all count =
    IsBranch-bare i c branch.kind branch.children is_open (sym count ∙ (ap length all ∙ length-decisions_of i c branch.kind))
