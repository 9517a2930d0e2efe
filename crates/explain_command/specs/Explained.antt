-- What the command tells, and why it tells nothing.
use Rattle.std.specs.Prelude.{ℕ, ◌<◌, ◌⊎◌, List, length, Option}
use Rattle.ttp_model.specs.Instance.{Instance}
use Rattle.command_streams.specs.declared.limits.TheConstants.{CERTIFICATE_LIMIT, INSTANCE_LIMIT}
use Rattle.command_streams.specs.Instances.{HasInstance, StatesSome}
use Rattle.command_streams.specs.Outcomes.{IsCommandAnswer, OnDone}
use Rattle.command_streams.specs.declared.ending.Source.TheVariants as source
use Rattle.command_streams.specs.declared.ending.Fault.{Fault}
use Rattle.command_streams.specs.declared.ending.Fault.TheVariants.{Memory, TooLong, Unread}
use Rattle.command_streams.specs.declared.ending.End.{End}
use Rattle.plan_commands.specs.Printed.{IsTooLong}
use Rattle.explain_command.specs.Certificates.{TellsCertificateBytes}
use Rattle.explain_command.specs.Instances.{TellsInstance, TellsRefused}
use Rattle.explain_command.specs.Plans.{TellsPlanBytes}

-- what is told of another text for the instance that these bytes state
pub record TellsBehind (Tells : Instance → List ℕ → List ℕ → Type 0) (instance bytes text : List ℕ) : Type 0 where
  pub problem : Instance
  pub has_instance : HasInstance instance problem
  pub tells : Tells problem bytes text

-- of the instance, where it is refused, and else of the other text
abbrev pub TellsBoth : (Instance → List ℕ → List ℕ → Type 0) → List ℕ → List ℕ → List ℕ → Type 0
TellsBoth Tells instance bytes text = TellsRefused instance text ⊎ TellsBehind Tells instance bytes text

-- why nothing is told of an instance
abbrev pub IsUntold : List ℕ → Fault → Type 0
IsUntold instance Memory = Unit {0}
IsUntold instance (Unread source.Instance) = Unit {0}
IsUntold instance (TooLong source.Instance) = INSTANCE_LIMIT < length instance
IsUntold instance _ = ⊥

-- of an instance and a plan
abbrev pub IsPlanUntold : List ℕ → List ℕ → Fault → Type 0
IsPlanUntold instance plan (Unread source.Plan) = StatesSome instance
IsPlanUntold instance plan (TooLong source.Plan) = StatesSome instance × IsTooLong plan
IsPlanUntold instance plan fault = IsUntold instance fault

-- of an instance and a certificate
abbrev pub IsCertificateUntold : List ℕ → List ℕ → Fault → Type 0
IsCertificateUntold instance certificate (Unread source.Certificate) = StatesSome instance
IsCertificateUntold instance certificate (TooLong source.Certificate) = StatesSome instance × (CERTIFICATE_LIMIT < length certificate)
IsCertificateUntold instance certificate fault = IsUntold instance fault

-- what `explain` answers of an instance alone, and what it writes
abbrev pub IsInstanceExplained : List ℕ → Option (List ℕ) → Option (List ℕ) → End → Type 0
IsInstanceExplained instance = IsCommandAnswer (OnDone (TellsInstance instance)) (IsUntold instance)

-- of an instance and a plan
abbrev pub IsPlanExplained : List ℕ → List ℕ → Option (List ℕ) → Option (List ℕ) → End → Type 0
IsPlanExplained instance plan = IsCommandAnswer (OnDone (TellsBoth TellsPlanBytes instance plan)) (IsPlanUntold instance plan)

-- of an instance and a certificate
abbrev pub IsCertificateExplained : List ℕ → List ℕ → Option (List ℕ) → Option (List ℕ) → End → Type 0
IsCertificateExplained instance certificate =
    IsCommandAnswer (OnDone (TellsBoth TellsCertificateBytes instance certificate)) (IsCertificateUntold instance certificate)
