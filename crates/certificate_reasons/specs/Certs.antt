-- Why a certificate doesn't prove its bound. Own profile.
use Rattle.std.specs.Prelude.{◌≡◌, ◌⊎◌, ℕ, ◌+◌, ◌-◌, ◌<◌, List, [], ◌∷◌}
use Rattle.ttp_model.specs.Instance.{Instance}
use Rattle.tt_choice.specs.Branches.{root_choice}
use Rattle.tt_choice.specs.Choice.{Choice}
use Rattle.certificate.specs.Cert.{Cert}
use Rattle.certificate.specs.declared.node.Node.{Node}
use Rattle.certificate.specs.Lines.{lines, node_lines}
use Rattle.certificate.specs.Spelling.{SpellsCert}
use Rattle.certificate.specs.Trees.{Trees, grow, none}
use Rattle.tree_check.specs.declared.fault.CertFault.{CertFault}
use Rattle.tree_check.specs.declared.fault.CertFault.TheVariants as fault
use Rattle.tree_check.specs.declared.fault.NodeFault.{NodeFault}
use Rattle.tree_check.specs.Faults.{IsNodeFault}
use Rattle.tree_check.specs.Proofs.{AreProofs, Suits, choices_below}
use Rattle.certificate_reasons.specs.declared.certs.CertReason.{CertReason}
use Rattle.certificate_reasons.specs.declared.certs.GreatLow.{GreatLow}
use Rattle.certificate_reasons.specs.declared.certs.NoProof.{NoProof}
use Rattle.certificate_reasons.specs.declared.certs.NoProof.TheVariants as why
use Rattle.certificate_reasons.specs.declared.nodes.NodeReason.{NodeReason}
use Rattle.certificate_reasons.specs.Lines.{IsCertLine}
use Rattle.certificate_reasons.specs.Nodes.{IsNodeReason}

-- a bound past the first tick behind the horizon, by some
pub record IsGreatLow (i : Instance) (low : ℕ) (r : GreatLow) : Type 0 where
  pub low_is : r.low ≡ low
  pub horizon_is : r.horizon ≡ i.cluster.horizon
  pub most_is : r.most ≡ i.cluster.horizon + 1
  pub some : 0 < r.by
  pub past : r.most + r.by ≡ r.low

-- The node that is the first at fault, of trees side by side the first of which begins at a line: the first tree's top node, or one below
-- it, where it suits its choice, or one beside it, where those below are proofs. So it stands at its choice, which is told with its line.
abbrev pub IsFirstAtFault : (Choice → Node → ℕ → Type 0) → Instance → ℕ → List Choice → Trees → ℕ → ℕ → NodeFault → Type 0
IsFirstAtFault Is i low [] trees line at fault = ⊥
IsFirstAtFault Is i low (c ∷ cs) none line at fault = ⊥
IsFirstAtFault Is i low (c ∷ cs) (grow node below beside) line at fault =
    (IsNodeFault i low c node line at fault × Is c node line)
    ⊎ (Suits i low c node
    × (IsFirstAtFault Is i low (choices_below i c node) below (line + node_lines node) at fault
    ⊎ (AreProofs i low (choices_below i c node) below
    × IsFirstAtFault Is i low cs beside (line + node_lines node + lines below) at fault)))

-- the reason of that node
abbrev pub IsTreeReason : Instance → Cert → ℕ → NodeFault → NodeReason → Type 0
IsTreeReason i cert at fault r =
    IsFirstAtFault (λ c node line. IsNodeReason i cert.low fault (at - line) c node r) i cert.low (root_choice i ∷ []) cert.tree 3 at fault

-- of a fault
abbrev pub HasNoProof : Instance → Cert → CertFault → NoProof → Type 0
HasNoProof i cert fault.LowTooGreat (why.GreatLow r) = IsGreatLow i cert.low r
HasNoProof i cert (fault.At line wrong) (why.Node r) = IsTreeReason i cert line wrong r
HasNoProof i cert _ _ = ⊥

-- the line that is told: the bound stands in line 2
abbrev pub line_of : CertFault → ℕ
line_of fault.LowTooGreat = 2
line_of (fault.At line wrong) = line
line_of fault.OutOfMemory = 2

-- of the certificate that a text spells
pub record IsCertReason (i : Instance) (text : List ℕ) (fault : CertFault) (r : CertReason) : Type 0 where
  pub cert : Cert
  pub spelled : SpellsCert text cert
  pub line_is : IsCertLine text (line_of fault) r.line
  pub why_is : HasNoProof i cert fault r.why
