-- How deep a tree of one branch is told to be, and which bound is the greatest.
use Rattle.std.proofs.Common.{◌≡◌, ℕ, ◌<◌, List, arith, subst}
use Rattle.certificate.specs.declared.branch.Branch.{Branch}
use Rattle.certificate.specs.declared.node.Node.TheVariants.{Branch as Splits, Leaf as Closes}
use Rattle.certificate.specs.Cert.{Cert}
use Rattle.certificate.specs.Spelling.{SpellsCert}
use Rattle.certificate.specs.Trees.{Trees, grow, none}
use Rattle.certificate_reasons.specs.declared.certs.CertReason.{CertReason}
use Rattle.certificate_reasons.specs.declared.certs.GreatLow.{GreatLow}
use Rattle.certificate_reasons.specs.declared.certs.NoProof.{NoProof}
use Rattle.certificate_reasons.specs.declared.certs.NoProof.TheVariants as why
use Rattle.certificate_reasons.specs.declared.proof.ProofReason.{ProofReason}
use Rattle.certificate_reasons.specs.declared.proof.ProofReason.TheVariants as proof
use Rattle.certificate_reasons.specs.declared.sizes.TreeSize.{TreeSize}
use Rattle.certificate_reasons.specs.Certs.{HasNoProof, IsCertReason}
use Rattle.certificate_reasons.specs.Proofs.{IsProofReason, IsTreeProof}
use Rattle.tree_check.specs.declared.fault.CertFault.TheVariants.{LowTooGreat}
use Rattle.ttp_model.specs.declared.step.Leaf.{Leaf}
use Rattle.ttp_model.specs.Instance.{Instance}

abbrev one_branch : Branch → Leaf → Leaf → Trees
one_branch branch first second = grow (Splits branch) (grow (Closes first) none (grow (Closes second) none none)) none

pub one_above : (i : Instance) (bytes : List ℕ) (told : ProofReason) → IsProofReason i bytes told
    → (cert : Cert) × SpellsCert bytes cert × ((branch : Branch) (first second : Leaf) (x : TreeSize) → cert.tree ≡ one_branch branch first second
    → told ≡ proof.Tree x → x.above ≡ 1)
one_above i bytes told is = (
  is.0,
  is.1,
  λ branch first second x tree said.
      let size : IsTreeProof i (one_branch branch first second) told = subst (λ (t : Trees). IsTreeProof i t told) tree is.2 in
      let own : IsTreeProof i (one_branch branch first second) (proof.Tree x) =
      subst (λ (r : ProofReason). IsTreeProof i (one_branch branch first second) r) said size in
      own.above_is,
)

pub greatest : (i : Instance) (bytes : List ℕ) (told : CertReason) → IsCertReason i bytes LowTooGreat told
    → (x : GreatLow) → told.why ≡ why.GreatLow x → x.horizon < x.most
greatest i bytes told is x said =
    let own : HasNoProof i is.cert LowTooGreat (why.GreatLow x) = subst (λ (r : NoProof). HasNoProof i is.cert LowTooGreat r) said is.why_is in
    omega (arith, own.most_is, own.horizon_is)
