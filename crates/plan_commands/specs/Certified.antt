-- What the bytes of an instance and of a certificate are judged to be, and what `check` writes of them.
use Rattle.std.specs.Prelude.{◌≡◌, ℕ, ◌<◌, ◌≤◌, List, [], ◌∷◌, ◌++◌, length, codes, decimal, Bool, true, false, Option, Err}
use Rattle.ttp_model.specs.Instance.{Instance}
use Rattle.ttp_model.specs.Delays.{IsLowerBound}
use Rattle.certificate.specs.Cert.{Cert}
use Rattle.certificate.specs.Spelling.{SpellsCert}
use Rattle.certificate.specs.Reading as reading
use Rattle.certificate.specs.declared.fault.CertTextError.TheVariants as text
use Rattle.cert_check.specs.declared.fault.StreamFault.{StreamFault}
use Rattle.cert_check.specs.declared.fault.StreamFault.TheVariants as stream
use Rattle.tree_check.specs.Proofs.{Proves}
use Rattle.tree_check.specs.Faults as checking
use Rattle.command_streams.specs.declared.limits.TheConstants.{CERTIFICATE_LIMIT, INSTANCE_LIMIT, LONG_CERTIFICATE_LIMIT}
use Rattle.command_streams.specs.declared.ending.Source.TheVariants as source
use Rattle.command_streams.specs.declared.ending.Fault.{Fault}
use Rattle.command_streams.specs.declared.ending.Fault.TheVariants.{InstanceText, Memory, CertificateText, Certificate, TooLong, Unread}
use Rattle.command_streams.specs.declared.ending.End.{End}
use Rattle.command_streams.specs.Outcomes.{IsCommandAnswer, IsWritingUnlessStopped, OnDone}
use Rattle.command_streams.specs.Instances.{HasInstance, IsInstanceFault}

-- how many bytes of a certificate are read, where it may be long and where not
abbrev pub certificate_limit : Bool → ℕ
certificate_limit true = LONG_CERTIFICATE_LIMIT
certificate_limit false = CERTIFICATE_LIMIT

-- the bytes are within a limit, and spell this certificate
pub record HasCertificate (limit : ℕ) (bytes : List ℕ) (cert : Cert) : Type 0 where
  pub within : length bytes ≤ limit
  pub spelled : SpellsCert bytes cert

-- and it proves its bound of the instance
pub record HasProof (limit : ℕ) (i : Instance) (bytes : List ℕ) (cert : Cert) : Type 0 where
  pub has_certificate : HasCertificate limit bytes cert
  pub proves : Proves i cert

-- the bytes spell a certificate that proves this bound of the instance, and so no valid plan is shorter
pub record HasBound (limit : ℕ) (i : Instance) (bytes : List ℕ) (low : ℕ) : Type 0 where
  pub cert : Cert
  pub has_certificate : HasCertificate limit bytes cert
  pub proves : Proves i cert
  pub low_is : low ≡ cert.low
  pub bound : IsLowerBound i low

-- the fault of a certificate's bytes, as it is told
abbrev pub fault_of : StreamFault → Fault
fault_of stream.Read = Unread source.Certificate
fault_of stream.TooLong = TooLong source.Certificate
fault_of (stream.Text text.OutOfMemory) = Memory
fault_of (stream.Text (text.At line fault)) = CertificateText (text.At line fault)
fault_of (stream.Cert fault) = Certificate fault

-- why bytes give no certificate that proves its bound
abbrev pub IsCertificateFault : (limit : ℕ) → Instance → List ℕ → Fault → Type 0
IsCertificateFault limit i bytes Memory = Unit {0}
IsCertificateFault limit i bytes (Unread source.Certificate) = Unit {0}
IsCertificateFault limit i bytes (TooLong source.Certificate) = limit < length bytes
IsCertificateFault limit i bytes (CertificateText error) = (length bytes ≤ limit) × reading.IsFaultIn (reading.HasLow bytes) error (reading.Reads bytes)
IsCertificateFault limit i bytes (Certificate fault) = (cert : Cert) × HasCertificate limit bytes cert × checking.IsJudged i cert (Err fault)
IsCertificateFault limit i bytes _ = ⊥

-- the instance is stated, and the certificate's bytes are at this fault
pub record IsUncertified (limit : ℕ) (instance certificate : List ℕ) (fault : Fault) : Type 0 where
  pub problem : Instance
  pub has_instance : HasInstance instance problem
  pub refused : IsCertificateFault limit problem certificate fault

-- why the bytes of an instance and of a certificate are refused: for the instance, or else for the certificate
abbrev pub IsUnproved : (limit : ℕ) → List ℕ → List ℕ → Fault → Type 0
IsUnproved limit instance certificate (InstanceText error) = IsInstanceFault instance (InstanceText error)
IsUnproved limit instance certificate Memory = Unit {0}
IsUnproved limit instance certificate (Unread source.Instance) = Unit {0}
IsUnproved limit instance certificate (TooLong source.Instance) = INSTANCE_LIMIT < length instance
IsUnproved limit instance certificate fault = IsUncertified limit instance certificate fault

-- the line of a bound that is proved
abbrev pub bound_line : ℕ → List ℕ
bound_line low = codes "bound " ++ (decimal low ++ 10 ∷ [])

-- the line tells a bound of the instance that the certificate proves
pub record IsBoundLine (limit : ℕ) (instance certificate line : List ℕ) : Type 0 where
  pub problem : Instance
  pub low : ℕ
  pub has_instance : HasInstance instance problem
  pub has_bound : HasBound limit problem certificate low
  pub line_is : line ≡ bound_line low

-- what `check` answers of the bytes of an instance and of a certificate, of which so many are read, and what it writes
abbrev pub IsCheckAnswer : (limit : ℕ) → List ℕ → List ℕ → Option (List ℕ) → Option (List ℕ) → End → Type 0
IsCheckAnswer limit instance certificate = IsCommandAnswer (OnDone (IsBoundLine limit instance certificate)) (IsUnproved limit instance certificate)

-- what `check` does with a certificate that proves its bound of the instance: it writes the bound, unless a reader or the writer
-- failed or memory was refused
abbrev pub WritesProvedBound : (limit : ℕ) → (instance certificate : List ℕ) → Option (List ℕ) → Option (List ℕ) → End → Type 0
WritesProvedBound limit instance certificate old new end =
    (problem : Instance) (cert : Cert) → HasInstance instance problem → HasCertificate limit certificate cert → Proves problem cert
    → IsWritingUnlessStopped (bound_line cert.low) old new end
