-- One node after another of those that a stream gives.
use Rattle.std.proofs.Common.{◌≡◌, ℕ, zero, suc, ◌+◌, ◌<◌, List, [], ◌∷◌, length, reverse, arith, refl, sym, ap, subst, ◌∙◌}
use Rattle.std.proofs.lemmas.List.{append-nil}
use Rattle.tt_choice.specs.Choice.{Choice}
use Rattle.tt_choice.specs.Branches.{IsBranch, child_choices, root_choice}
use Rattle.tt_choice.proofs.ChildLists.{length-child_choices}
use Rattle.ttp_model.specs.Instance.{Instance}
use Rattle.certificate.specs.declared.branch.Branch.{Branch}
use Rattle.certificate.specs.declared.node.Node.{Node}
use Rattle.certificate.specs.Trees.{children, trees_of}
use Rattle.certificate.specs.Opened.{still_due, TakesChild}
use Rattle.tree_check.specs.declared.fault.CertFault.{CertFault}
use Rattle.tree_check.specs.declared.fault.CertFault.TheVariants.{LowTooGreat, At, OutOfMemory}
use Rattle.tree_check.specs.Proofs.{AreProofs}
use Rattle.tree_check.specs.Seen.{ReadLeaf, AllClose, IsSeen, TellsHeld, TellsSeen}
use Rattle.cert_check.specs.UnderWay.{total_due}

-- ---- children that are still to come

total-still_due : (due : List ℕ) → total_due due ≡ total_due (still_due due)
total-still_due [] = refl
total-still_due (zero ∷ above) = omega (arith, total-still_due above)
total-still_due (suc count ∷ above) = refl

-- one is taken, and as many are to come as the node has
pub takes_one : (due next : List ℕ) (n : Node) → (t : TakesChild due next n) → total_due (reverse due) ≡ suc (t.count + total_due t.above)
takes_one due next n t = total-still_due (reverse due) ∙ ap total_due t.was ∙ omega arith

pub one_due : (due next : List ℕ) (n : Node) → TakesChild due next n → 0 < total_due (reverse due)
one_due due next n t = omega (arith, takes_one due next n t)

pub leaves_more : (due next : List ℕ) (n : Node) → (t : TakesChild due next n) → total_due (reverse next) ≡ children n + (t.count + total_due t.above)
leaves_more due next n t = ap total_due t.is

pub none_due : (due : List ℕ) → still_due (reverse due) ≡ [] → total_due (reverse due) ≡ 0
none_due due closed = total-still_due (reverse due) ∙ ap total_due closed

-- ---- the next choice

pub first_left : (left : List Choice) → 0 < length left → (c : Choice) × (others : List Choice) × (left ≡ c ∷ others)
first_left [] some = absurd (omega (arith, some))
first_left (c ∷ others) some = (c, others, refl)

pub branch_count : (i : Instance) (c : Choice) (branch : Branch) → IsBranch i c branch.kind branch.children
    → length (child_choices i c branch.kind) ≡ branch.children
branch_count i c branch suits = length-child_choices i c branch.kind ∙ sym suits.just

-- ---- behind the last node

pub nothing_left : (left : List Choice) → length left ≡ 0 → left ≡ []
nothing_left [] none = refl
nothing_left (c ∷ left) none = absurd (omega (arith, none))

pub all_proved : (i : Instance) (low : ℕ) (seen : List Node) (rs : List ReadLeaf) → IsSeen i low seen rs [] → AllClose i low rs
    → AreProofs i low (root_choice i ∷ []) (trees_of seen)
unfolding trees_of
all_proved i low seen rs s closed =
    subst (λ (ns : List Node). AreProofs i low (root_choice i ∷ []) (trees_of ns)) (append-nil seen) (s.proofs closed [] tt)

-- a fault of leaves that wait is one of what was seen
pub held_tells : (i : Instance) (low : ℕ) (seen : List Node) (rs : List ReadLeaf) (left : List Choice) (fault : CertFault)
    → IsSeen i low seen rs left → TellsHeld i low rs fault → TellsSeen i low seen fault
held_tells i low seen rs left LowTooGreat s tells = absurd tells
held_tells i low seen rs left (At at fault) s tells = λ rest. (tells.0, tells.1, s.waits rest tells.0 fault tells.2)
held_tells i low seen rs left OutOfMemory s tells = λ rest. tt
