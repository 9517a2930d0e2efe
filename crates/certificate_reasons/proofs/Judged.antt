-- What the fault of a certificate says.
use Rattle.std.proofs.Common.{◌≡◌, ℕ, ◌+◌, ◌<◌, ◌^◌, [], ◌∷◌, arith, subst}
use Rattle.ttp_model.specs.Instance.{Instance}
use Rattle.tt_choice.specs.Branches.{IsBranch, root_choice}
use Rattle.tt_choice.specs.Choice.{Choice}
use Rattle.certificate.specs.declared.branch.Branch.{Branch}
use Rattle.certificate.specs.Cert.{Cert}
use Rattle.certificate.specs.Lines.{lines}
use Rattle.tree_check.specs.declared.fault.NodeFault.{NodeFault}
use Rattle.tree_check.specs.declared.fault.NodeFault.TheVariants.{ChildCount, LowGoal, NotClosed, NotOpen, RefusedStep}
use Rattle.tree_check.specs.Faults.{IsBranchFault, IsFirstTreeFault, told_line}
use Rattle.certificate_reasons.proofs.FirstFaults.{Any, any_first, first_inside}

-- a branch that suits its choice has none
pub suits_well : (i : Instance) (c : Choice) (branch : Branch) (fault : NodeFault) → IsBranch i c branch.kind branch.children
    → IsBranchFault i c branch fault → ⊥
suits_well i c branch ChildCount suits wrong = wrong.1 suits.just
suits_well i c branch NotOpen suits wrong = wrong suits.is_open
suits_well i c branch LowGoal suits wrong = wrong
suits_well i c branch RefusedStep suits wrong = wrong
suits_well i c branch NotClosed suits wrong = wrong

-- the line of a node is told by itself where those of all nodes are
pub told_exactly : (i : Instance) (cert : Cert) (line at : ℕ) (fault : NodeFault) → 3 + lines cert.tree < 2 ^ 64 → line ≡ told_line at
    → IsFirstTreeFault i cert.low (root_choice i ∷ []) cert.tree 3 at fault → IsFirstTreeFault i cert.low (root_choice i ∷ []) cert.tree 3 line fault
told_exactly i cert line at fault few is first =
    let inside = first_inside Any i cert.low at fault (root_choice i ∷ []) cert.tree 3 (any_first i cert.low (root_choice i ∷ []) cert.tree 3 at fault first) in
    let same : at ≡ line = omega (arith, is, inside.1, few) in
    subst (λ (l : ℕ). IsFirstTreeFault i cert.low (root_choice i ∷ []) cert.tree 3 l fault) same first
