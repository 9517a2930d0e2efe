-- How a certificate proves its bound. Own profile.
use Rattle.std.specs.Prelude.{ℕ, List}
use Rattle.ttp_model.specs.Instance.{Instance}
use Rattle.tt_choice.specs.Branches.{root_choice}
use Rattle.certificate.specs.declared.node.Node.TheVariants.{Branch, Leaf}
use Rattle.certificate.specs.Cert.{Cert}
use Rattle.certificate.specs.Spelling.{SpellsCert}
use Rattle.certificate.specs.Trees.{Trees, grow}
use Rattle.tree_check.specs.Proofs.{Proves}
use Rattle.certificate_reasons.specs.declared.proof.ProofReason.{ProofReason}
use Rattle.certificate_reasons.specs.declared.proof.ProofReason.TheVariants as reason
use Rattle.certificate_reasons.specs.Leaves.{IsLeafReason}
use Rattle.certificate_reasons.specs.Sizes.{IsTreeSize}

-- a tree's leaf, where it is one leaf alone, step by step, and else how large its tree is
abbrev pub IsTreeProof : Instance → Trees → ProofReason → Type 0
IsTreeProof i (grow (Leaf leaf) below beside) (reason.Leaf r) = IsLeafReason i (root_choice i) leaf r
IsTreeProof i (grow (Branch branch) below beside) (reason.Tree x) = IsTreeSize (grow (Branch branch) below beside) x
IsTreeProof i _ _ = ⊥

-- a text spells a certificate that proves its bound
abbrev pub IsProof : Instance → List ℕ → Type 0
IsProof i text = (cert : Cert) × SpellsCert text cert × Proves i cert

-- of the certificate that a text spells
abbrev pub IsProofReason : Instance → List ℕ → ProofReason → Type 0
IsProofReason i text r = (cert : Cert) × SpellsCert text cert × IsTreeProof i cert.tree r
