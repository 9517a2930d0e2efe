-- A certificate that proves its bound is accepted, unless a reader or the writer failed or memory was refused.
use Rattle.std.proofs.Common.{◌≡◌, ℕ, ◌≤◌, List, length, Option, None, Some, IfSome, Result, Ok, Err, refl, sym, subst}
use Rattle.ttp_model.specs.Instance.{Instance}
use Rattle.certificate.specs.Cert.{Cert}
use Rattle.certificate.specs.Limits.{most_text_bytes}
use Rattle.certificate.specs.Spelling.{SpellsCert}
use Rattle.certificate.specs.declared.fault.CertTextError.{CertTextError}
use Rattle.tree_check.specs.declared.fault.CertFault.{CertFault}
use Rattle.cert_check.specs.declared.fault.StreamFault.{StreamFault}
use Rattle.cert_check.specs.declared.fault.StreamFault.TheVariants.{Read, TooLong, Text, Cert as InCert}
use Rattle.tree_check.specs.Proofs.{Proves}
use Rattle.cert_check.specs.Streams.{IsBoundUnlessStopped}
use Rattle.command_streams.specs.declared.ending.Fault.{Fault}
use Rattle.command_streams.specs.declared.ending.End.{End}
use Rattle.command_streams.specs.declared.ending.End.TheVariants.{Refused}
use Rattle.command_streams.specs.declared.limits.TheConstants.{CERTIFICATE_LIMIT}
use Rattle.command_streams.specs.Endings.{IsNotOfTexts}
use Rattle.command_streams.specs.Instances.{HasInstance}
use Rattle.command_streams.specs.Outcomes.{IsWritingUnlessMemory}
use Rattle.command_streams.proofs.Outcomes.{made_unless_stopped}
use Rattle.plan_commands.specs.Certified.{HasCertificate, WritesProvedBound, bound_line, fault_of}

-- what stops the check is no fault of the text
stopped_fault : (low : ℕ) (fault : StreamFault) → IsBoundUnlessStopped low (Err fault) → IsNotOfTexts (fault_of fault)
stopped_fault low Read is = tt
stopped_fault low TooLong is = absurd is
stopped_fault low (Text error) is = subst (λ (e : CertTextError). IsNotOfTexts (fault_of (Text e))) (sym is) refl
stopped_fault low (InCert fault) is = subst (λ (f : CertFault). IsNotOfTexts (fault_of (InCert f))) (sym is) refl

-- what is answered of a reader that has such a certificate
module _ (i : Instance) where
  abbrev pub Accepts : Option (List ℕ) → Result ℕ StreamFault → Type 0
  Accepts known answer =
      IfSome known (λ bytes. (cert : Cert) → length bytes ≤ most_text_bytes → SpellsCert bytes cert → Proves i cert → IsBoundUnlessStopped cert.low answer)

  pub bound_only : (known : Option (List ℕ)) (low : ℕ) → Accepts known (Ok low)
      → IfSome known (λ bytes. (cert : Cert) → HasCertificate CERTIFICATE_LIMIT bytes cert → Proves i cert → low ≡ cert.low)
  bound_only None low only = tt
  bound_only (Some bytes) low only = λ cert has proves. only cert has.within has.spelled proves

  pub fault_only : (known : Option (List ℕ)) (fault : StreamFault) → Accepts known (Err fault)
      → IfSome known (λ bytes. (cert : Cert) → HasCertificate CERTIFICATE_LIMIT bytes cert → Proves i cert → IsNotOfTexts (fault_of fault))
  fault_only None fault only = tt
  fault_only (Some bytes) fault only = λ cert has proves. stopped_fault cert.low fault (only cert has.within has.spelled proves)

-- the instance isn't read
pub unread_instance : (limit : ℕ) (a b : Option (List ℕ)) (old : Option (List ℕ)) (fault : Fault)
    → IfSome a (λ bytes. (i : Instance) → HasInstance bytes i → IsNotOfTexts fault)
    → IfSome a (λ instance. IfSome b (λ certificate. WritesProvedBound limit instance certificate old old (Refused fault)))
unread_instance limit None b old fault only = tt
unread_instance limit (Some instance) None old fault only = tt
unread_instance limit (Some instance) (Some certificate) old fault only = λ problem cert has_instance has_certificate proves. only problem has_instance

-- it is read as this one
abbrev pub IsReadAs : Option (List ℕ) → Instance → Type 0
IsReadAs known i = IfSome known (λ bytes. (problem : Instance) → HasInstance bytes problem → i ≡ problem)

pub proved_written : (limit : ℕ) (a b : Option (List ℕ)) (i : Instance) (low : ℕ) (old new : Option (List ℕ)) (end : End) → IsReadAs a i
    → IfSome b (λ bytes. (cert : Cert) → HasCertificate limit bytes cert → Proves i cert → low ≡ cert.low) → IsWritingUnlessMemory (bound_line low) old new end
    → IfSome a (λ instance. IfSome b (λ certificate. WritesProvedBound limit instance certificate old new end))
proved_written limit None b i low old new end read only writing = tt
proved_written limit (Some instance) None i low old new end read only writing = tt
proved_written limit (Some instance) (Some certificate) i low old new end read only writing = λ problem cert has_instance has_certificate proves.
    let mine : Proves i cert = subst (λ (p : Instance). Proves p cert) (sym (read problem has_instance)) proves in
    made_unless_stopped (bound_line cert.low) old new end (subst (λ (n : ℕ). IsWritingUnlessMemory (bound_line n) old new end)
    (only cert has_certificate mine) writing)

pub proved_stopped : (limit : ℕ) (a b : Option (List ℕ)) (i : Instance) (old : Option (List ℕ)) (fault : Fault) → IsReadAs a i
    → IfSome b (λ bytes. (cert : Cert) → HasCertificate limit bytes cert → Proves i cert → IsNotOfTexts fault)
    → IfSome a (λ instance. IfSome b (λ certificate. WritesProvedBound limit instance certificate old old (Refused fault)))
proved_stopped limit None b i old fault read only = tt
proved_stopped limit (Some instance) None i old fault read only = tt
proved_stopped limit (Some instance) (Some certificate) i old fault read only = λ problem cert has_instance has_certificate proves.
    only cert has_certificate (subst (λ (p : Instance). Proves p cert) (sym (read problem has_instance)) proves)
