-- What the bytes of an instance, of a plan to begin with, where there is one, and of a certificate are answered by a search that goes on from there.
use Rattle.std.specs.Prelude.{◌≡◌, ℕ, ◌≤◌, List, Bool, Option, None, Some, IfSome}
use Rattle.ttp_model.specs.declared.plan.Plan.{Plan as Table}
use Rattle.ttp_model.specs.Instance.{Instance}
use Rattle.ttp_model.specs.Delays.{delay}
use Rattle.certificate.specs.Cert.{Cert}
use Rattle.planner.specs.Answers as answers
use Rattle.planner.specs.Begun.{IsTooDeep}
use Rattle.planner.specs.Onward.{told_low, IsOnward}
use Rattle.planner.specs.Searching.{limit_of}
use Rattle.planner.specs.declared.onward.OnFault.{OnFault}
use Rattle.planner.specs.declared.onward.OnFault.TheVariants as going
use Rattle.command_streams.specs.declared.ending.Source.TheVariants as source
use Rattle.command_streams.specs.declared.ending.Fault.{Fault}
use Rattle.command_streams.specs.declared.ending.Fault.TheVariants.{Certificate, CertificateText, DeepCertificate, Memory, Search, TooLong, Unread}
use Rattle.command_streams.specs.declared.ending.End.{End}
use Rattle.command_streams.specs.declared.limits.TheConstants.{LONG_CERTIFICATE_LIMIT}
use Rattle.command_streams.specs.Instances.{HasInstance, IsInstanceFault}
use Rattle.plan_commands.specs.Certified.{HasProof, IsCertificateFault}
use Rattle.plan_commands.specs.Printed.{HasPrintedPlan, IsUnprinted}
use Rattle.solve_command.specs.Faults.{told_as}
use Rattle.solve_command.specs.declared.onward.Outset.{Outset}
use Rattle.solve_command.specs.declared.onward.Continuation.{Continuation}
use Rattle.solve_command.specs.declared.solve.Solved.{Solved}
use Rattle.solve_command.specs.Solved.{IsAnswerText}
use Rattle.solve_command.specs.Telling.{IsToldOf}

-- ---- readers, of which there may be none

-- a reader, where there is one, has these bytes
abbrev pub Gives : {P : Type 0} → (P → Option (List ℕ)) → Option P → Option (List ℕ) → Type 0
Gives remaining None None = Unit {0}
Gives remaining None (Some bytes) = ⊥
Gives remaining (Some reader) None = ⊥
Gives remaining (Some reader) (Some bytes) = remaining reader ≡ Some bytes

-- what it has left
abbrev pub rest_of : {P : Type 0} → (P → Option (List ℕ)) → Option P → Option (List ℕ)
rest_of remaining None = None
rest_of remaining (Some reader) = remaining reader

-- ---- from where a search begins

-- the plan is the valid one that bytes have printed, where there are such
abbrev pub IsStart : Instance → Option (List ℕ) → Option Table → Type 0
IsStart i None None = Unit {0}
IsStart i None (Some plan) = ⊥
IsStart i (Some bytes) None = ⊥
IsStart i (Some bytes) (Some plan) = HasPrintedPlan i bytes plan (delay i plan)

-- the bytes of an instance, and of a plan, where there is one
pub record IsBegun (instance : List ℕ) (plan : Option (List ℕ)) (begun : Outset) : Type 0 where
  pub has_instance : HasInstance instance begun.instance
  pub start : IsStart begun.instance plan begun.start

-- why these are refused
abbrev pub HasNoStart : List ℕ → Option (List ℕ) → Fault → Type 0
HasNoStart instance None fault = IsInstanceFault instance fault
HasNoStart instance (Some plan) fault = IsUnprinted instance plan fault

-- ---- what it finds

-- an answer to this instance with its text, of a search that goes on from the certificate, and begins with the plan where there is one: it has a plan that
-- takes no longer then, tells a bound that is no lower than the certificate's, and says that it was called off only where the one may end it who follows it
pub record IsOnwardOf (i : Instance) (start : Option Table) (cert : Cert) (on : Continuation) (Ends : Type 0) (solved : Solved) : Type 0 where
  pub of : solved.instance ≡ i
  pub is_answer : IsOnward i on.asked.options on.asked.enough.gap start cert on.part solved.outcome
  pub shows : answers.Shows i solved.outcome
  pub tells : IsAnswerText on.asked.enough.until i solved.outcome solved.text.items
  pub no_later : IfSome start (λ plan. limit_of i (answers.best_of solved.outcome) ≤ delay i plan)
  pub no_lower : cert.low ≤ told_low i solved.outcome
  pub called_off : answers.IsCalledOff solved.outcome → Ends

-- as what it is told that it doesn't go on
abbrev pub fault_of : OnFault → Fault
fault_of (going.TooDeep line) = DeepCertificate line
fault_of (going.Search fault) = Search (told_as fault)

-- why it doesn't: it could come too deep below the branch on this line, or there was no memory, or no thread
abbrev pub IsNoOnward : Instance → Cert → Fault → Type 0
IsNoOnward i cert Memory = Unit {0}
IsNoOnward i cert (Search fault) = Unit {0}
IsNoOnward i cert (DeepCertificate line) = IsTooDeep i cert line
IsNoOnward i cert _ = ⊥

-- ---- the same of all bytes

-- they state an instance, print a valid plan of it, where there are such, and spell a certificate that proves its bound; and this is an answer
pub record IsSolvedOn (instance : List ℕ) (plan : Option (List ℕ)) (cert : List ℕ) (on : Continuation) (Ends : Type 0) (solved : Solved) : Type 0 where
  pub begun : Outset
  pub begins : IsBegun instance plan begun
  pub first : Cert
  pub has_proof : HasProof LONG_CERTIFICATE_LIMIT begun.instance cert first
  pub is : IsOnwardOf begun.instance begun.start first on Ends solved

-- those of the certificate alone are at this fault
pub record IsUncertified (instance : List ℕ) (plan : Option (List ℕ)) (cert : List ℕ) (fault : Fault) : Type 0 where
  pub begun : Outset
  pub begins : IsBegun instance plan begun
  pub refused : IsCertificateFault LONG_CERTIFICATE_LIMIT begun.instance cert fault

-- they are at none, and the search doesn't go on
pub record IsUnanswered (instance : List ℕ) (plan : Option (List ℕ)) (cert : List ℕ) (fault : Fault) : Type 0 where
  pub begun : Outset
  pub begins : IsBegun instance plan begun
  pub first : Cert
  pub has_proof : HasProof LONG_CERTIFICATE_LIMIT begun.instance cert first
  pub why : IsNoOnward begun.instance first fault

-- why these have no answer: for the instance or the plan, else for the certificate, else for the search
abbrev pub IsUnsolvedOn : List ℕ → Option (List ℕ) → List ℕ → Fault → Type 0
IsUnsolvedOn instance plan cert Memory = Unit {0}
IsUnsolvedOn instance plan cert (Unread source.Certificate) = IsUncertified instance plan cert (Unread source.Certificate)
IsUnsolvedOn instance plan cert (TooLong source.Certificate) = IsUncertified instance plan cert (TooLong source.Certificate)
IsUnsolvedOn instance plan cert (CertificateText error) = IsUncertified instance plan cert (CertificateText error)
IsUnsolvedOn instance plan cert (Certificate fault) = IsUncertified instance plan cert (Certificate fault)
IsUnsolvedOn instance plan cert (DeepCertificate line) = IsUnanswered instance plan cert (DeepCertificate line)
IsUnsolvedOn instance plan cert (Search fault) = IsUnanswered instance plan cert (Search fault)
IsUnsolvedOn instance plan cert fault = HasNoStart instance plan fault

-- what `solve` answers of them, and what it writes
unfoldable pub IsOnwardAnswer : (instance : List ℕ) (plan : Option (List ℕ)) (cert : List ℕ) (on : Continuation) (Ends : Type 0) (wanted : Bool) (from to old new : Option (List ℕ)) → End → Type 0
IsOnwardAnswer instance plan cert on Ends = IsToldOf (IsSolvedOn instance plan cert on Ends) (IsUnsolvedOn instance plan cert)
