-- What two readers give is judged as their texts are, and the line of a bound is the outcome of `check`.
use Rattle.std.proofs.Common.{◌≡◌, ℕ, List, Option, None, Some, IfSome, refl, sym, subst}
use Rattle.ttp_model.specs.Instance.{Instance}
use Rattle.ttp_model.specs.Delays.{IsLowerBound}
use Rattle.ttp_model.specs.Rules.{IsInstance}
use Rattle.certificate.specs.Cert.{Cert}
use Rattle.tree_check.proofs.Bounds.{proved_bound}
use Rattle.command_streams.specs.declared.ending.Source.TheVariants as source
use Rattle.command_streams.specs.declared.ending.Fault.{Fault}
use Rattle.command_streams.specs.declared.ending.Fault.TheVariants.{Memory, CertificateText, Certificate, TooLong, Unread}
use Rattle.command_streams.specs.declared.ending.End.{End}
use Rattle.command_streams.specs.declared.ending.End.TheVariants.{Refused}
use Rattle.command_streams.specs.Outcomes.{IsWritingUnlessMemory}
use Rattle.command_streams.specs.Instances.{HasInstance}
use Rattle.plan_commands.specs.Certified.{HasBound, HasProof, IsCertificateFault, IsUnproved, IsBoundLine, IsCheckAnswer, bound_line}
use Rattle.command_streams.proofs.Outcomes.{keeps, made_outcome}

-- a certificate that proves its bound has that bound
pub bound_of_proof : (limit : ℕ) (i : Instance) (known : Option (List ℕ)) (cert : Cert) (low : ℕ) → IsInstance i → low ≡ cert.low
    → IfSome known (λ bytes. HasProof limit i bytes cert) → IfSome known (λ bytes. HasBound limit i bytes low)
bound_of_proof limit i None cert low w is has = tt
bound_of_proof limit i (Some bytes) cert low w is has = record {
  cert = cert;
  has_certificate = has.has_certificate;
  proves = has.proves;
  low_is = is;
  bound = subst (IsLowerBound i) (sym is) (proved_bound i cert w has.proves);
}

-- a bound that is proved and written
pub bound_of_readers : (limit : ℕ) (a b : Option (List ℕ)) (i : Instance) (low : ℕ) (old new : Option (List ℕ)) (end : End)
    → IfSome a (λ instance. HasInstance instance i) → IfSome b (λ certificate. HasBound limit i certificate low)
    → IsWritingUnlessMemory (bound_line low) old new end → IfSome a (λ instance. IfSome b (λ certificate. IsCheckAnswer limit instance certificate old new end))
bound_of_readers limit None b i low old new end has_instance has_bound writing = tt
bound_of_readers limit (Some instance) None i low old new end has_instance has_bound writing = tt
bound_of_readers limit (Some instance) (Some certificate) i low old new end has_instance has_bound writing =
    made_outcome (IsBoundLine limit instance certificate) (IsUnproved limit instance certificate) (bound_line low)
    (record { problem = i; low = low; has_instance = has_instance; has_bound = has_bound; line_is = refl }) old new tt end writing

-- a certificate that is refused, and nothing is written
module _ (limit : ℕ) (instance certificate : List ℕ) (i : Instance) (has : HasInstance instance i) (old : Option (List ℕ)) where
  refused_here : (fault : Fault) → IsCertificateFault limit i certificate fault → IsCheckAnswer limit instance certificate old old (Refused fault)
  refused_here Memory refused = (tt, keeps old)
  refused_here (Unread source.Certificate) refused = (record { problem = i; has_instance = has; refused = refused }, keeps old)
  refused_here (TooLong source.Certificate) refused = (record { problem = i; has_instance = has; refused = refused }, keeps old)
  refused_here (CertificateText error) refused = (record { problem = i; has_instance = has; refused = refused }, keeps old)
  refused_here (Certificate fault) refused = (record { problem = i; has_instance = has; refused = refused }, keeps old)
  refused_here fault refused = absurd refused

pub refused_of_readers : (limit : ℕ) (a b : Option (List ℕ)) (i : Instance) (old : Option (List ℕ)) (fault : Fault)
    → IfSome a (λ instance. HasInstance instance i) → IfSome b (λ certificate. IsCertificateFault limit i certificate fault)
    → IfSome a (λ instance. IfSome b (λ certificate. IsCheckAnswer limit instance certificate old old (Refused fault)))
refused_of_readers limit None b i old fault has refused = tt
refused_of_readers limit (Some instance) None i old fault has refused = tt
refused_of_readers limit (Some instance) (Some certificate) i old fault has refused = refused_here limit instance certificate i has old fault refused
