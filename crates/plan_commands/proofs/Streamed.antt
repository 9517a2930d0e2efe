-- What the check of a reader's bytes answers is what those bytes are judged to be.
use Rattle.std.proofs.Common.{◌≡◌, ℕ, ◌+◌, ◌<◌, ◌≤◌, List, ◌++◌, length, Option, None, Some, IfSome, Ok, Err, arith, ap, sym, subst, ◌∙◌}
use Rattle.std.proofs.lemmas.List.{append-nil}
use Rattle.std.specs.Io.KnownBytes.{Consumes, IsAtEnd}
use Rattle.ttp_model.specs.Instance.{Instance}
use Rattle.ttp_model.specs.Delays.{IsLowerBound}
use Rattle.certificate.specs.declared.fault.CertTextError.TheVariants as text
use Rattle.certificate.specs.Cert.{Cert}
use Rattle.certificate.specs.Streams.{BytesRead}
use Rattle.certificate.specs.Reading.{Reads}
use Rattle.certificate.specs.Spelling.{SpellsCert}
use Rattle.certificate.proofs.WholeText.{takes}
use Rattle.cert_check.specs.declared.fault.StreamFault.{StreamFault}
use Rattle.cert_check.specs.declared.fault.StreamFault.TheVariants.{Read, TooLong, Text, Cert as InCert}
use Rattle.cert_check.specs.Streams.{IsStreamJudged, IsTakenFrom}
use Rattle.cert_check.proofs.Accepted.{few_taken}
use Rattle.command_streams.specs.declared.limits.TheConstants.{CERTIFICATE_LIMIT}
use Rattle.plan_commands.specs.Certified.{HasBound, IsCertificateFault, fault_of}

-- ---- how many bytes were taken

-- all bytes were taken, and they are within the limit
all_within : (bytes taken : List ℕ) (next : Option (List ℕ)) → Consumes (Some bytes) next taken → length taken ≤ CERTIFICATE_LIMIT → IsAtEnd next
    → length bytes ≤ CERTIFICATE_LIMIT
all_within bytes taken None consumes few ended = absurd consumes
all_within bytes taken (Some rest) consumes few ended =
    let whole : bytes ≡ taken = consumes ∙ (ap (λ (r : List ℕ). taken ++ r) ended ∙ append-nil taken) in
    omega (arith, ap length whole, few)

-- ---- what they are

spelled_by : (bytes : List ℕ) (cert : Cert) → BytesRead (Some bytes) (Ok cert) → SpellsCert bytes cert
spelled_by bytes cert read = subst (λ (t : List ℕ). SpellsCert t cert) (sym read.1.0) (takes read.0 cert read.1.1)

pub bound_of_stream : (i : Instance) (known next : Option (List ℕ)) (low : ℕ) → IsStreamJudged i known (Ok low) → IsTakenFrom known next (Ok low)
    → IsLowerBound i low → IfSome known (λ bytes. HasBound CERTIFICATE_LIMIT i bytes low)
bound_of_stream i None next low judged taken bound = tt
bound_of_stream i (Some bytes) next low judged taken bound = record {
  cert = judged.0;
  has_certificate = record {
    within = all_within bytes taken.from.bytes next taken.from.consumes (omega (arith, taken.from.count, taken.all.0)) taken.all.1;
    spelled = spelled_by bytes judged.0 judged.1;
  };
  proves = judged.2.1;
  low_is = judged.2.0;
  bound = bound;
}

pub fault_of_stream : (i : Instance) (known next : Option (List ℕ)) (fault : StreamFault) → IsStreamJudged i known (Err fault)
    → IsTakenFrom known next (Err fault) → IfSome known (λ bytes. IsCertificateFault CERTIFICATE_LIMIT i bytes (fault_of fault))
fault_of_stream i None next fault judged taken = tt
fault_of_stream i (Some bytes) next Read judged taken = tt
fault_of_stream i (Some bytes) next TooLong judged taken =
    let over : taken.taken ≡ CERTIFICATE_LIMIT + 1 = taken.all in
    let long : CERTIFICATE_LIMIT < length bytes = omega (arith, over, taken.from.count, few_taken bytes taken.from.bytes next taken.from.consumes) in
    long
fault_of_stream i (Some bytes) next (Text text.OutOfMemory) judged taken = tt
fault_of_stream i (Some bytes) next (Text (text.At line fault)) judged taken = (
  all_within bytes taken.from.bytes next taken.from.consumes (omega (arith, taken.from.count, taken.all.0)) taken.all.1,
  subst (λ (t : List ℕ). Reads t (Err (text.At line fault))) (sym judged.1.0) judged.1.1,
)
fault_of_stream i (Some bytes) next (InCert fault) judged taken = (
  judged.0,
  record {
    within = all_within bytes taken.from.bytes next taken.from.consumes (omega (arith, taken.from.count, taken.all.0)) taken.all.1;
    spelled = spelled_by bytes judged.0 judged.1;
  },
  judged.2,
)
