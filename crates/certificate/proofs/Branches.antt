-- A branch is told by its kind and its count of children.
use Rattle.std.proofs.Common.{◌≡◌, ℕ, sym, subst, ap}
use Rattle.std.specs.Coded.{Coded-set, coded_ℕ}
use Rattle.ttp_model.specs.declared.step.Kind.{Kind}
use Rattle.ttp_model.specs.Kinds.{children_of, HasOwnCount}
use Rattle.certificate.specs.declared.branch.Branch.{Branch}
use Rattle.certificate.specs.Branch.{branch_of}

abbrev branch_with : (kind : Kind) (count : ℕ) → HasOwnCount kind count → Branch
branch_with kind count own = record { kind = kind; children = count; own = own }

same_branch : (kind : Kind) (m n : ℕ) (own : HasOwnCount kind m) → m ≡ n → (other : HasOwnCount kind n) → branch_with kind m own ≡ branch_with kind n other
same_branch kind m n own same =
    let P : ℕ → Type 0 = λ k. (other : HasOwnCount kind k) → branch_with kind m own ≡ branch_with kind k other in
    subst P same (λ other. ap (branch_with kind m) (Coded-set coded_ℕ m (children_of kind m) own other))

-- so options don't matter where they leave the count
pub branch_of-same : (kind : Kind) (options others : ℕ) → children_of kind options ≡ children_of kind others → branch_of kind options ≡ branch_of kind others
branch_of-same kind options others same = same_branch kind (children_of kind options) (children_of kind others) _ same _

pub branch_again : (branch : Branch) → branch_of branch.kind branch.children ≡ branch
branch_again branch = same_branch branch.kind (children_of branch.kind branch.children) branch.children _ (sym branch.own) branch.own
