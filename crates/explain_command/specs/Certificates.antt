-- What is told of a certificate's bytes, for an instance.
use Rattle.std.specs.Prelude.{◌≡◌, ◌⊎◌, ℕ, ◌<◌, List, ◌++◌, length}
use Rattle.ttp_model.specs.Instance.{Instance}
use Rattle.certificate.specs.declared.fault.CertTextError.TheVariants.{At}
use Rattle.certificate.specs.declared.fault.LineFault.{LineFault}
use Rattle.certificate_reasons.specs.declared.certs.CertReason.{CertReason}
use Rattle.certificate_reasons.specs.declared.proof.ProofReason.{ProofReason}
use Rattle.certificate_reasons.specs.declared.texts.TextReason.{TextReason}
use Rattle.certificate_reasons.specs.Certs.{IsCertReason}
use Rattle.certificate_reasons.specs.Proofs.{IsProofReason}
use Rattle.certificate_reasons.specs.Texts.{IsTextReason}
use Rattle.sentences.specs.Shown.{Gains, IsShown}
use Rattle.command_streams.specs.declared.limits.TheConstants.{CERTIFICATE_LIMIT}
use Rattle.plan_commands.specs.Certified.{HasBound, IsCertificateFault, bound_line}
use Rattle.command_streams.specs.Endings.{fault_status}
use Rattle.command_streams.specs.declared.limits.TheConstants.{CERTIFICATE_LIMIT}
use Rattle.command_streams.specs.declared.ending.Source.TheVariants as source
use Rattle.command_streams.specs.declared.ending.Fault.{Fault}
use Rattle.command_streams.specs.declared.ending.Fault.TheVariants as fault
use Rattle.tree_check.specs.declared.fault.CertFault.{CertFault}
use Rattle.explain_command.specs.Telling.{line_of}

-- bytes that spell none, which is no want of memory: the line that reading them tells, and sentences on the reason
pub record TellsUnwritten (i : Instance) (bytes text : List ℕ) : Type 0 where
  pub line : ℕ
  pub wrong : LineFault
  pub first : IsCertificateFault CERTIFICATE_LIMIT i bytes (fault.CertificateText (At line wrong))
  pub reason : TextReason
  pub is : IsTextReason bytes line wrong reason
  pub told : Gains IsShown (line_of (fault.CertificateText (At line wrong))) text

-- a certificate that doesn't prove its bound, which is no want of memory: the line of its first fault, and sentences on the reason
pub record TellsUnproved (i : Instance) (bytes text : List ℕ) : Type 0 where
  pub wrong : CertFault
  pub first : IsCertificateFault CERTIFICATE_LIMIT i bytes (fault.Certificate wrong)
  pub status : fault_status (fault.Certificate wrong) ≡ 5
  pub reason : CertReason
  pub is : IsCertReason i bytes wrong reason
  pub told : Gains IsShown (line_of (fault.Certificate wrong)) text

-- one that does: its steps where it is one leaf, and else how large it is
pub record TellsProved (i : Instance) (bytes text : List ℕ) : Type 0 where
  pub low : ℕ
  pub bound : HasBound CERTIFICATE_LIMIT i bytes low
  pub reason : ProofReason
  pub is : IsProofReason i bytes reason
  pub told : Gains IsShown (bound_line low) text

-- the bytes of a certificate
abbrev pub TellsCertificateBytes : Instance → List ℕ → List ℕ → Type 0
TellsCertificateBytes i bytes text = TellsUnwritten i bytes text ⊎ (TellsUnproved i bytes text ⊎ TellsProved i bytes text)

-- why nothing is told of them
abbrev pub IsUnreadable : List ℕ → Fault → Type 0
IsUnreadable bytes fault.Memory = Unit {0}
IsUnreadable bytes (fault.Unread source.Certificate) = Unit {0}
IsUnreadable bytes (fault.TooLong source.Certificate) = CERTIFICATE_LIMIT < length bytes
IsUnreadable bytes _ = ⊥
