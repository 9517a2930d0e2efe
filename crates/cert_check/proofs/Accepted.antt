-- Bytes of a certificate that proves its bound are answered with that bound, unless the reader failed or memory was refused.
use Rattle.std.proofs.Common.{◌≡◌, ℕ, ◌+◌, ◌≤◌, ◌<◌, List, ◌++◌, length, Option, None, Some, IfSome, Result, Ok, Err, arith, refl, sym, ap, subst, ◌∙◌, length-append}
use Rattle.std.specs.Io.KnownBytes.{Consumes}
use Rattle.ttp_model.specs.Instance.{Instance}
use Rattle.ttp_model.specs.Rules.{IsInstance}
use Rattle.ttp_model.specs.Delays.{IsLowerBound, HasNoPlan}
use Rattle.certificate.specs.declared.fault.CertTextError.{CertTextError}
use Rattle.certificate.specs.declared.fault.CertTextError.TheVariants as text
use Rattle.certificate.specs.declared.fault.SourceFault.{SourceFault}
use Rattle.certificate.specs.declared.fault.SourceFault.TheVariants as source
use Rattle.certificate.specs.declared.node.Node.{Node}
use Rattle.certificate.specs.declared.stream.CertStream.{CertStream}
use Rattle.certificate.specs.Cert.{Cert}
use Rattle.certificate.specs.Limits.{most_text_bytes}
use Rattle.certificate.specs.Reading.{Reading, Reads}
use Rattle.certificate.specs.Spelling.{SpellsCert}
use Rattle.certificate.specs.Opened.{certificate_with}
use Rattle.certificate.specs.Streams.{stream_version, BytesRead, IsCertFault, LeavesNodes}
use Rattle.certificate.specs.Trees.{trees_of}
use Rattle.certificate.proofs.WholeText.{again, one_answer}
use Rattle.tree_check.specs.declared.fault.CertFault.{CertFault}
use Rattle.tree_check.specs.declared.fault.CertFault.TheVariants.{LowTooGreat, At, OutOfMemory}
use Rattle.cert_check.specs.declared.fault.StreamFault.{StreamFault}
use Rattle.cert_check.specs.declared.fault.StreamFault.TheVariants.{Read, TooLong, Text, Cert as InCert}
use Rattle.tree_check.specs.Proofs.{Proves}
use Rattle.tree_check.specs.Faults.{IsJudged}
use Rattle.cert_check.specs.Streams.{IsAnswerOf, IsBoundUnlessStopped, IsStreamJudged, IsTakenFrom, fault_of_source}
use Rattle.cert_check.specs.UnderWay.{AnswersAll, IsLinesFault, StopsAt}
use Rattle.tree_check.proofs.Bounds.{proved_bound, proved_none}
use Rattle.tree_check.proofs.NoFaults.{only_memory}

-- what is answered of a text in some way is answered of it in every way that tells as much
pub answer_by : (i : Instance) (Tells Others : Reading Cert → Type 0) (answer : Result ℕ StreamFault)
    → ((reading : Reading Cert) → Tells reading → Others reading) → IsAnswerOf i Tells answer → IsAnswerOf i Others answer
answer_by i Tells Others (Ok low) more is = (is.0, more (Ok is.0) is.1, is.2)
answer_by i Tells Others (Err Read) more is = tt
answer_by i Tells Others (Err TooLong) more is = tt
answer_by i Tells Others (Err (Text text.OutOfMemory)) more is = tt
answer_by i Tells Others (Err (Text (text.At line fault))) more is = more (Err (text.At line fault)) is
answer_by i Tells Others (Err (InCert fault)) more is = (is.0, more (Ok is.0) is.1, is.2)

-- no more is taken than there is
pub few_taken : (bytes taken : List ℕ) (next : Option (List ℕ)) → Consumes (Some bytes) next taken → length taken ≤ length bytes
few_taken bytes taken None consumes = absurd consumes
few_taken bytes taken (Some rest) consumes =
    let whole : bytes ≡ taken ++ rest = consumes in
    omega (arith, ap length whole, length-append taken rest)

module _ (bytes : List ℕ) (cert : Cert) (spelled : SpellsCert bytes cert) where
  -- the bytes read as this certificate and in no other way
  reads_so : (reading : Reading Cert) → BytesRead (Some bytes) reading → reading ≡ Ok cert
  reads_so reading read = one_answer bytes reading (Ok cert) (subst (λ (t : List ℕ). Reads t reading) (sym read.1.0) read.1.1) (again bytes cert spelled)

  reads_cert : (other : Cert) → BytesRead (Some bytes) (Ok other) → other ≡ cert
  reads_cert other read = let same = reads_so (Ok other) read in cc

  reads_no_fault : (fault : CertTextError) → ¬ BytesRead (Some bytes) (Err fault)
  reads_no_fault fault read = let same = reads_so (Err fault) read in cc

-- of a certificate that proves its bound no fault is told but want of memory
judged_memory : (i : Instance) (cert : Cert) (fault : CertFault) → Proves i cert → IsJudged i cert (Err fault) → fault ≡ OutOfMemory
judged_memory i cert LowTooGreat proves judged = absurd (omega (arith, proves.low, judged))
judged_memory i cert (At line fault) proves judged = only_memory i cert (At line fault) proves judged.1
judged_memory i cert OutOfMemory proves judged = refl

pub bound_of_proof : (i : Instance) (known next : Option (List ℕ)) (answer : Result ℕ StreamFault) → IsStreamJudged i known answer
    → IsTakenFrom known next answer
    → IfSome known (λ bytes. (cert : Cert) → length bytes ≤ most_text_bytes → SpellsCert bytes cert → Proves i cert → IsBoundUnlessStopped cert.low answer)
bound_of_proof i None next answer judged taken = tt
bound_of_proof i (Some bytes) next (Ok low) judged taken =
    λ cert within spelled proves. judged.2.0 ∙ ap (λ (c : Cert). c.low) (reads_cert bytes cert spelled judged.0 judged.1)
bound_of_proof i (Some bytes) next (Err Read) judged taken = λ cert within spelled proves. tt
bound_of_proof i (Some bytes) next (Err TooLong) judged taken = λ cert within spelled proves.
    let over : taken.taken ≡ most_text_bytes + 1 = taken.all in
    absurd (omega (arith, within, over, taken.from.count, few_taken bytes taken.from.bytes next taken.from.consumes))
bound_of_proof i (Some bytes) next (Err (Text text.OutOfMemory)) judged taken = λ cert within spelled proves. refl
bound_of_proof i (Some bytes) next (Err (Text (text.At line fault))) judged taken =
    λ cert within spelled proves. absurd (reads_no_fault bytes cert spelled (text.At line fault) judged)
bound_of_proof i (Some bytes) next (Err (InCert fault)) judged taken = λ cert within spelled proves.
    judged_memory i cert fault proves (subst (λ (c : Cert). IsJudged i c (Err fault)) (reads_cert bytes cert spelled judged.0 judged.1) judged.2)

-- ---- what is answered of a whole text by what is told of its nodes

pub answer_of_lines : (i : Instance) (Tells : Reading Cert → Type 0) (taken : ℕ) (fault : SourceFault) → IsCertFault Tells taken fault
    → IsAnswerOf i Tells (Err (fault_of_source fault)) × StopsAt taken (Err (fault_of_source fault))
answer_of_lines i Tells taken source.Read is = (tt, tt)
answer_of_lines i Tells taken source.TooLong is = (tt, is)
answer_of_lines i Tells taken (source.Text text.OutOfMemory) is = (tt, tt)
answer_of_lines i Tells taken (source.Text (text.At line fault)) is = (is, tt)

module _ {R : Type 0} (i : Instance) (low : ℕ) (remaining : R → Option (List ℕ)) (s : CertStream R) (Tells : Reading Cert → Type 0)
    (whole : (read : Reading (List Node)) → LeavesNodes remaining s read → Tells (certificate_with (stream_version s) low read)) (taken : ℕ) where
  pub answer_of_rest : (fault : StreamFault) → IsLinesFault (LeavesNodes remaining s) taken fault → IsAnswerOf i Tells (Err fault) × StopsAt taken (Err fault)
  answer_of_rest Read is = (tt, tt)
  answer_of_rest TooLong is = (tt, is)
  answer_of_rest (Text text.OutOfMemory) is = (tt, tt)
  answer_of_rest (Text (text.At line fault)) is = (whole (Err (text.At line fault)) is, tt)
  answer_of_rest (InCert fault) is = absurd is

  pub too_great : (nodes : List Node) → LeavesNodes remaining s (Ok nodes) → i.cluster.horizon + 1 < low → IsAnswerOf i Tells (Err (InCert LowTooGreat))
  too_great nodes l past = (record { version = stream_version s; low = low; tree = trees_of nodes }, whole (Ok nodes) l, past)

  module _ (within : low ≤ i.cluster.horizon + 1) where
    pub answer_of_fault : (fault : StreamFault) → AnswersAll i low remaining s taken (Err fault) → IsAnswerOf i Tells (Err fault) × StopsAt taken (Err fault)
    answer_of_fault Read is = (tt, tt)
    answer_of_fault TooLong is = (tt, is)
    answer_of_fault (Text text.OutOfMemory) is = (tt, tt)
    answer_of_fault (Text (text.At line fault)) is = (whole (Err (text.At line fault)) is, tt)
    answer_of_fault (InCert LowTooGreat) is = absurd is.1.1
    answer_of_fault (InCert (At line fault)) is =
        ((record { version = stream_version s; low = low; tree = trees_of is.0 }, whole (Ok is.0) is.1.0, (within, is.1.1)), tt)
    answer_of_fault (InCert OutOfMemory) is = ((record { version = stream_version s; low = low; tree = trees_of is.0 }, whole (Ok is.0) is.1.0, within), tt)

    pub proof_of_all : AnswersAll i low remaining s taken (Ok tt) → IsAnswerOf i Tells (Ok low)
    proof_of_all is =
        (record { version = stream_version s; low = low; tree = trees_of is.0 }, whole (Ok is.0) is.1.0, (refl, record { low = within; tree = is.1.1 }))

    pub bound_of_all : IsInstance i → AnswersAll i low remaining s taken (Ok tt) → IsLowerBound i low
    bound_of_all instance is =
        proved_bound i (record { version = stream_version s; low = low; tree = trees_of is.0 }) instance (record { low = within; tree = is.1.1 })

    pub none_of_all : IsInstance i → AnswersAll i low remaining s taken (Ok tt) → low ≡ i.cluster.horizon + 1 → HasNoPlan i
    none_of_all instance is past =
        proved_none i (record { version = stream_version s; low = low; tree = trees_of is.0 }) instance (record { low = within; tree = is.1.1 }) past

-- what is wrong with lines that are read alone
pub passing_fails : {R : Type 0} (i : Instance) (low : ℕ) (remaining : R → Option (List ℕ)) (s : CertStream R) (taken : ℕ) (fault : StreamFault)
    → IsLinesFault (LeavesNodes remaining s) taken fault → AnswersAll i low remaining s taken (Err fault)
passing_fails i low remaining s taken Read is = tt
passing_fails i low remaining s taken TooLong is = is
passing_fails i low remaining s taken (Text text.OutOfMemory) is = tt
passing_fails i low remaining s taken (Text (text.At line fault)) is = is
passing_fails i low remaining s taken (InCert fault) is = absurd is
