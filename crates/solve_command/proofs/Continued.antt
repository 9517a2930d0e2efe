-- What was found by a search that goes on from a certificate, or that nothing was, is told as the answer of `solve` that it is.
use Rattle.std.proofs.Common.{ℕ, Bool, List, Option, None, Some, Result, Ok, Err, IfSome, MatchResult}
use Rattle.certificate.specs.Cert.{Cert}
use Rattle.command_streams.specs.declared.ending.Source.TheVariants as source
use Rattle.command_streams.specs.declared.ending.Fault.{Fault}
use Rattle.command_streams.specs.declared.ending.Fault.TheVariants.{Certificate, CertificateText, DeepCertificate, Memory, Search, TooLong, Unread}
use Rattle.command_streams.specs.declared.ending.End.{End}
use Rattle.command_streams.specs.declared.limits.TheConstants.{LONG_CERTIFICATE_LIMIT}
use Rattle.plan_commands.specs.Certified.{HasProof, IsCertificateFault}
use Rattle.solve_command.specs.declared.onward.Outset.{Outset}
use Rattle.solve_command.specs.declared.onward.Continuation.{Continuation}
use Rattle.solve_command.specs.declared.solve.Solved.{Solved}
use Rattle.solve_command.specs.Continued.{Gives, HasNoStart, IsBegun, IsNoOnward, IsOnwardAnswer, IsOnwardOf, IsSolvedOn, IsUnsolvedOn}
use Rattle.solve_command.specs.Telling.{IsTellingOf}
use Rattle.solve_command.proofs.Solving.{found_told, CanLack}

-- ---- why there is no answer

-- none for the instance or the plan
unstarted_by : (instance : List ℕ) (plan : Option (List ℕ)) (cert : List ℕ) (fault : Fault) → HasNoStart instance plan fault
    → IsUnsolvedOn instance plan cert fault
unstarted_by instance plan cert Memory is = tt
unstarted_by instance None cert (Unread source.Certificate) is = absurd is
unstarted_by instance (Some text) cert (Unread source.Certificate) is = absurd is
unstarted_by instance None cert (TooLong source.Certificate) is = absurd is
unstarted_by instance (Some text) cert (TooLong source.Certificate) is = absurd is
unstarted_by instance None cert (CertificateText error) is = absurd is
unstarted_by instance (Some text) cert (CertificateText error) is = absurd is
unstarted_by instance None cert (Certificate error) is = absurd is
unstarted_by instance (Some text) cert (Certificate error) is = absurd is
unstarted_by instance None cert (DeepCertificate line) is = absurd is
unstarted_by instance (Some text) cert (DeepCertificate line) is = absurd is
unstarted_by instance None cert (Search error) is = absurd is
unstarted_by instance (Some text) cert (Search error) is = absurd is
unstarted_by instance plan cert fault is = is

-- none for the certificate
uncertified_by : (instance : List ℕ) (plan : Option (List ℕ)) (cert : List ℕ) (begun : Outset) (fault : Fault) → IsBegun instance plan begun
    → IsCertificateFault LONG_CERTIFICATE_LIMIT begun.instance cert fault → IsUnsolvedOn instance plan cert fault
uncertified_by instance plan cert begun Memory begins is = tt
uncertified_by instance plan cert begun (Unread source.Certificate) begins is = record { begun = begun; begins = begins; refused = is }
uncertified_by instance plan cert begun (TooLong source.Certificate) begins is = record { begun = begun; begins = begins; refused = is }
uncertified_by instance plan cert begun (CertificateText error) begins is = record { begun = begun; begins = begins; refused = is }
uncertified_by instance plan cert begun (Certificate error) begins is = record { begun = begun; begins = begins; refused = is }
uncertified_by instance plan cert begun fault begins is = absurd is

-- none for the search
unanswered_by : (instance : List ℕ) (plan : Option (List ℕ)) (cert : List ℕ) (begun : Outset) (first : Cert) (fault : Fault) → IsBegun instance plan begun
    → HasProof LONG_CERTIFICATE_LIMIT begun.instance cert first → IsNoOnward begun.instance first fault → IsUnsolvedOn instance plan cert fault
unanswered_by instance plan cert begun first Memory begins has is = tt
unanswered_by instance plan cert begun first (DeepCertificate line) begins has is =
    record { begun = begun; begins = begins; first = first; has_proof = has; why = is }
unanswered_by instance plan cert begun first (Search error) begins has is =
    record { begun = begun; begins = begins; first = first; has_proof = has; why = is }
unanswered_by instance plan cert begun first fault begins has is = absurd is

-- ---- what three readers give

module _ {P : Type 0} (remaining : P → Option (List ℕ)) (start : Option P) (a c : Option (List ℕ)) where
  -- what holds of all their bytes, where they tell them
  abbrev pub OfAll : (List ℕ → Option (List ℕ) → List ℕ → Type 0) → Type 0
  OfAll Holds = IfSome a (λ instance. (plan : Option (List ℕ)) → Gives remaining start plan → IfSome c (λ cert. Holds instance plan cert))

module _ {P : Type 0} (remaining : P → Option (List ℕ)) (start : Option P) where
  pub unstarted : (a c : Option (List ℕ)) (fault : Fault)
      → IfSome a (λ instance. (plan : Option (List ℕ)) → Gives remaining start plan → HasNoStart instance plan fault)
      → OfAll remaining start a c (λ instance plan cert. IsUnsolvedOn instance plan cert fault)
  unstarted None c fault is = tt
  unstarted (Some instance) None fault is = λ plan gives. tt
  unstarted (Some instance) (Some cert) fault is = λ plan gives. unstarted_by instance plan cert fault (is plan gives)

  module _ (begun : Outset) where
    pub uncertified : (a c : Option (List ℕ)) (fault : Fault)
        → IfSome a (λ instance. (plan : Option (List ℕ)) → Gives remaining start plan → IsBegun instance plan begun)
        → IfSome c (λ cert. IsCertificateFault LONG_CERTIFICATE_LIMIT begun.instance cert fault) → OfAll remaining start a c (λ instance plan cert. IsUnsolvedOn instance plan cert fault)
    uncertified None c fault begins is = tt
    uncertified (Some instance) None fault begins is = λ plan gives. tt
    uncertified (Some instance) (Some cert) fault begins is = λ plan gives. uncertified_by instance plan cert begun fault (begins plan gives) is

    module _ (first : Cert) (on : Continuation) (Ends : Type 0) where
      found_by : (instance : List ℕ) (plan : Option (List ℕ)) (cert : List ℕ) (found : Result Solved Fault) → IsBegun instance plan begun
          → HasProof LONG_CERTIFICATE_LIMIT begun.instance cert first → MatchResult found (IsOnwardOf begun.instance begun.start first on Ends) (IsNoOnward begun.instance first)
          → MatchResult found (IsSolvedOn instance plan cert on Ends) (IsUnsolvedOn instance plan cert)
      found_by instance plan cert (Ok solved) begins has is = record { begun = begun; begins = begins; first = first; has_proof = has; is = is }
      found_by instance plan cert (Err fault) begins has is = unanswered_by instance plan cert begun first fault begins has is

      pub found_on : (a c : Option (List ℕ)) (found : Result Solved Fault)
          → IfSome a (λ instance. (plan : Option (List ℕ)) → Gives remaining start plan → IsBegun instance plan begun)
          → IfSome c (λ cert. HasProof LONG_CERTIFICATE_LIMIT begun.instance cert first)
          → MatchResult found (IsOnwardOf begun.instance begun.start first on Ends) (IsNoOnward begun.instance first)
          → OfAll remaining start a c (λ instance plan cert. MatchResult found (IsSolvedOn instance plan cert on Ends) (IsUnsolvedOn instance plan cert))
      found_on None c found begins has is = tt
      found_on (Some instance) None found begins has is = λ plan gives. tt
      found_on (Some instance) (Some cert) found begins has is = λ plan gives. found_by instance plan cert found (begins plan gives) has is

-- ---- how it is told

can_lack : (instance : List ℕ) (plan : Option (List ℕ)) (cert : List ℕ) → CanLack (IsUnsolvedOn instance plan cert)
can_lack instance None cert = record { memory = tt; writers = λ s never. absurd never }
can_lack instance (Some text) cert = record { memory = tt; writers = λ s never. absurd never }

module _ {P : Type 0} (remaining : P → Option (List ℕ)) (start : Option P) (on : Continuation) (Ends : Type 0) (wanted : Bool) (from to old new : Option (List ℕ)) where
  told_by : (instance : List ℕ) (plan : Option (List ℕ)) (cert : List ℕ) (found : Result Solved Fault) (end : End)
      → MatchResult found (IsSolvedOn instance plan cert on Ends) (IsUnsolvedOn instance plan cert) → IsTellingOf found wanted from to old new end
      → IsOnwardAnswer instance plan cert on Ends wanted from to old new end
  unfolding IsOnwardAnswer
  told_by instance plan cert found end is telling =
      found_told (IsSolvedOn instance plan cert on Ends) (IsUnsolvedOn instance plan cert) (can_lack instance plan cert) wanted from to old new found is end telling

  pub told_on : (a c : Option (List ℕ)) (found : Result Solved Fault) (end : End)
      → OfAll remaining start a c (λ instance plan cert. MatchResult found (IsSolvedOn instance plan cert on Ends) (IsUnsolvedOn instance plan cert))
      → IsTellingOf found wanted from to old new end
      → OfAll remaining start a c (λ instance plan cert. IsOnwardAnswer instance plan cert on Ends wanted from to old new end)
  told_on None c found end is telling = tt
  told_on (Some instance) None found end is telling = λ plan gives. tt
  told_on (Some instance) (Some cert) found end is telling = λ plan gives. told_by instance plan cert found end (is plan gives) telling
