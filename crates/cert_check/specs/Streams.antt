-- What the check of a reader's bytes answers: as reading the whole text and checking its certificate would. Own profile.
use Rattle.std.specs.Prelude.{◌≡◌, ℕ, ◌+◌, ◌≤◌, List, Option, None, Some, Result, Ok, Err}
use Rattle.std.specs.Io.KnownBytes.{IsAtEnd}
use Rattle.ttp_model.specs.Instance.{Instance}
use Rattle.certificate.specs.declared.fault.CertTextError.TheVariants as text
use Rattle.certificate.specs.declared.fault.SourceFault.{SourceFault}
use Rattle.certificate.specs.declared.fault.SourceFault.TheVariants as source
use Rattle.certificate.specs.Cert.{Cert}
use Rattle.certificate.specs.Limits.{most_text_bytes}
use Rattle.certificate.specs.Reading.{Reading}
use Rattle.certificate.specs.Streams.{BytesRead, LeavesNodes}
use Rattle.certificate.specs.declared.fault.CertTextError.{CertTextError}
use Rattle.certificate.specs.declared.node.Node.{Node}
use Rattle.certificate.specs.declared.stream.CertStream.{CertStream}
use Rattle.certificate.specs.Blocks.{IsFrom, Stops}
use Rattle.tree_check.specs.declared.fault.CertFault.{CertFault}
use Rattle.tree_check.specs.declared.fault.CertFault.TheVariants.{OutOfMemory}
use Rattle.cert_check.specs.declared.fault.StreamFault.{StreamFault}
use Rattle.cert_check.specs.declared.fault.StreamFault.TheVariants.{Read, TooLong, Text, Cert as InCert}
use Rattle.tree_check.specs.Proofs.{Proves}
use Rattle.tree_check.specs.Faults.{IsJudged}

-- a fault of the lines, as a fault of the stream
abbrev pub fault_of_source : SourceFault → StreamFault
fault_of_source source.Read = Read
fault_of_source source.TooLong = TooLong
fault_of_source (source.Text error) = Text error

-- the first fault of a certificate, or none where it proves its bound
abbrev pub IsFound : Instance → Cert → Option CertFault → Type 0
IsFound i cert None = Proves i cert
IsFound i cert (Some fault) = IsJudged i cert (Err fault)

-- What the answer says of bytes that read so: the bound of the certificate that they spell and that proves it; or the first fault
-- of the text; or of the certificate that they spell.
abbrev pub IsAnswerOf : Instance → (Tells : Reading Cert → Type 0) → Result ℕ StreamFault → Type 0
IsAnswerOf i Tells (Ok low) = (cert : Cert) × Tells (Ok cert) × IsJudged i cert (Ok low)
IsAnswerOf i Tells (Err Read) = Unit {0}
IsAnswerOf i Tells (Err TooLong) = Unit {0}
IsAnswerOf i Tells (Err (Text text.OutOfMemory)) = Unit {0}
IsAnswerOf i Tells (Err (Text (text.At line fault))) = Tells (Err (text.At line fault))
IsAnswerOf i Tells (Err (InCert fault)) = (cert : Cert) × Tells (Ok cert) × IsJudged i cert (Err fault)

-- what it says of the bytes that a reader has, which are any where they aren't known
abbrev pub IsStreamJudged : Instance → Option (List ℕ) → Result ℕ StreamFault → Type 0
IsStreamJudged i known = IsAnswerOf i (BytesRead known)

-- What a certificate that proves this bound is answered with: the bound, unless the reader failed or memory was refused.
abbrev pub IsBoundUnlessStopped : ℕ → Result ℕ StreamFault → Type 0
IsBoundUnlessStopped low (Ok said) = said ≡ low
IsBoundUnlessStopped low (Err Read) = Unit {0}
IsBoundUnlessStopped low (Err TooLong) = ⊥
IsBoundUnlessStopped low (Err (Text error)) = error ≡ text.OutOfMemory
IsBoundUnlessStopped low (Err (InCert fault)) = fault ≡ OutOfMemory

-- Where so many bytes were taken: all that there are, within the limit, or one more than that where the text is too long. Only
-- a reader that failed, and memory that was refused, may leave some.
abbrev pub TakesAll : ℕ → (next : Option (List ℕ)) → Result ℕ StreamFault → Type 0
TakesAll taken next (Err Read) = taken ≤ most_text_bytes + 1
TakesAll taken next (Err TooLong) = taken ≡ most_text_bytes + 1
TakesAll taken next (Err (Text text.OutOfMemory)) = taken ≤ most_text_bytes + 1
TakesAll taken next _ = (taken ≤ most_text_bytes) × IsAtEnd next

-- how many bytes were taken of a reader, and what is left of it
pub record IsTakenFrom (known next : Option (List ℕ)) (answer : Result ℕ StreamFault) : Type 0 where
  pub taken : ℕ
  pub from : IsFrom next taken known
  pub all : TakesAll taken next answer

-- Where the text in front of a stream has this fault, it is told once what is left was read in some way; else why the reader stopped.
abbrev pub IsToldBehind : {R : Type 0} → (R → Option (List ℕ)) → CertStream R → (taken : ℕ) → CertTextError → SourceFault → Type 0
IsToldBehind remaining s taken fault source.Read = Unit {0}
IsToldBehind remaining s taken fault source.TooLong = Stops taken source.TooLong
IsToldBehind remaining s taken fault (source.Text text.OutOfMemory) = Unit {0}
IsToldBehind remaining s taken fault (source.Text (text.At line at)) =
    (fault ≡ text.At line at) × ((read : Reading (List Node)) × LeavesNodes remaining s read)
