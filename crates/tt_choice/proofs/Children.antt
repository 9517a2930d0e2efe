-- The children of an open branch, of whichever kind: they have all the valid plans of the choice and no others, and are the same whatever is kept.
use Rattle.std.proofs.Common.{◌≡◌, ℕ, ◌<◌, List, refl, ap, ◌∙◌}
use Rattle.ttp_model.specs.declared.plan.Plan.{Plan}
use Rattle.ttp_model.specs.declared.step.Kind.{Kind}
use Rattle.ttp_model.specs.Kinds.{children_of}
use Rattle.ttp_model.specs.Instance.{Instance}
use Rattle.tt_choice.specs.declared.reversal.Reversal.{Reversal}
use Rattle.tt_choice.specs.Choice.{Choice, IsIn, IsChoice, bare}
use Rattle.tt_choice.specs.Kinds.{IsOpen, children, child, decision_of}
use Rattle.tt_choice.specs.Decisions.{choice_after}
use Rattle.tt_choice.proofs.Rows.{decision_is_open, open_outside, options_alike, decision_alike}
use Rattle.tt_choice.proofs.Decisions.{IsChoice-after, IsIn-after}
use Rattle.tt_choice.proofs.Inside.{IsInside-keeping}
use Rattle.tt_choice.proofs.Trail.{after-bare}
pub use Rattle.tt_choice.proofs.Open.{turned}
pub use Rattle.tt_choice.proofs.Rows.{child-IsIn}

-- a child is a choice of the instance
pub IsChoice-child : (i : Instance) (c : Choice) (kind : Kind) (k : ℕ) → IsChoice i c → IsOpen i c kind → k < children i c kind → IsChoice i (child i c kind k)
IsChoice-child i c kind k ok is inside = IsChoice-after i c (decision_of i c kind k) ok (decision_is_open i c kind k is inside)

-- a plan of a child is one of the choice
pub IsIn-child : (i : Instance) (c : Choice) (kind : Kind) (k : ℕ) (plan : Plan) → IsChoice i c → IsOpen i c kind → k < children i c kind → IsIn i (child i c kind k) plan → IsIn i c plan
IsIn-child i c kind k plan ok is inside v = IsIn-after i c (decision_of i c kind k) plan ok (decision_is_open i c kind k is inside) v

-- Which decisions a choice keeps changes nothing that a branch is judged by.
pub IsOpen-keeping : (i : Instance) (c : Choice) (kept : List Reversal) (kind : Kind) → IsOpen i c kind → IsOpen i (record c { kept = kept }) kind
IsOpen-keeping i c kept kind is = open_outside i c (record c { kept = kept }) kind (IsInside-keeping i c kept) (λ _. refl) is

pub children-bare : (i : Instance) (c : Choice) (kind : Kind) → children i (bare c) kind ≡ children i c kind
children-bare i c kind = ap (children_of kind) (options_alike i c (bare c) kind (λ _. refl))

pub child-bare : (i : Instance) (c : Choice) (kind : Kind) (k : ℕ) → child i (bare c) kind k ≡ child i c kind k
child-bare i c kind k = after-bare i c (decision_of i (bare c) kind k) ∙ ap (choice_after i c) (decision_alike i c (bare c) kind k (λ _. refl))
