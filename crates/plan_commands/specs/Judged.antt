-- What the bytes of an instance, of a plan or the word that there is none, and of a certificate are judged to be, and what `judge` writes of them.
use Rattle.std.specs.Prelude.{◌≡◌, ◌≢◌, ℕ, ◌+◌, ◌<◌, ◌≤◌, ◌⊎◌, List, [], ◌∷◌, ◌++◌, length, codes, decimal, Option, None, Some}
use Rattle.std.specs.Io.KnownBytes.{Appends, Keeps}
use Rattle.ttp_model.specs.declared.plan.Plan.{Plan as Table}
use Rattle.ttp_model.specs.Instance.{Instance}
use Rattle.ttp_model.specs.Plans.{IsValid}
use Rattle.ttp_model.specs.Delays.{delay}
use Rattle.plan_format.specs.declared.fault.LineFault.TheVariants.{Trailing}
use Rattle.plan_format.specs.declared.fault.PlanTextError.TheVariants.{At}
use Rattle.command_streams.specs.declared.limits.TheConstants.{PLAN_LIMIT}
use Rattle.command_streams.specs.Streams.{AppendsPart}
use Rattle.command_streams.specs.declared.ending.Source.TheVariants as source
use Rattle.command_streams.specs.declared.ending.Sink.TheVariants as sink
use Rattle.command_streams.specs.declared.ending.Fault.{Fault}
use Rattle.command_streams.specs.declared.ending.Fault.TheVariants.{InstanceText, Memory, PlanText, Plan, StatedDelay, CertificateText, Certificate, TooLong, Unread, Unwritten}
use Rattle.command_streams.specs.declared.ending.End.{End}
use Rattle.command_streams.specs.declared.ending.End.TheVariants.{Done, Absent, Stopped, Refused}
use Rattle.command_streams.specs.Outcomes.{IsCommandAnswer}
use Rattle.command_streams.specs.Instances.{HasInstance}
use Rattle.plan_commands.specs.declared.front.Front.{Front}
use Rattle.plan_commands.specs.declared.front.Front.TheVariants as front
use Rattle.plan_commands.specs.declared.judge.Standing.{Standing}
use Rattle.plan_commands.specs.declared.judge.Judgement.{Judgement}
use Rattle.plan_commands.specs.declared.judge.Judgement.TheVariants.{Least, NoPlan, Between}
use Rattle.plan_commands.specs.Fronts.{BeginsWith}
use Rattle.plan_commands.specs.Printed.{IsPlanFaultBehind, IsRefusedAs}
use Rattle.plan_commands.specs.Verdicts.{HasValidPlan}
use Rattle.plan_commands.specs.Certified.{HasBound, IsCertificateFault}

-- ---- what is given in a plan's place

-- the text is that of a valid plan of this delay, which it states
abbrev pub HasPlanOf : Instance → List ℕ → Option ℕ → Type 0
HasPlanOf i text None = ⊥
HasPlanOf i text (Some d) = (plan : Table) × HasValidPlan i text plan d

-- that nothing stands there, and that there is no plan
abbrev pub IsNothing : List ℕ → Option ℕ → Type 0
IsNothing rest best = (rest ≡ []) × (best ≡ None)

-- what stands behind such a front stands for the delay of a valid plan, or nothing does and there is none
abbrev pub StandsBehind : Instance → Front → List ℕ → Option ℕ → Type 0
StandsBehind i front.Plan rest best = HasPlanOf i rest best
StandsBehind i front.Headed rest best = HasPlanOf i rest best
StandsBehind i front.Bare rest best = IsNothing rest best
StandsBehind i front.NoPlan rest best = IsNothing rest best

-- the bytes in a plan's place stand for that
pub record StandsFor (i : Instance) (bytes : List ℕ) (best : Option ℕ) : Type 0 where
  pub begun : Front
  pub rest : List ℕ
  pub begins : BeginsWith bytes begun rest
  pub stands : StandsBehind i begun rest best

-- anything within a plan's limit stands where nothing may
abbrev pub IsMore : List ℕ → Fault → Type 0
IsMore rest fault = (rest ≢ []) × ((length rest ≤ PLAN_LIMIT) × (fault ≡ PlanText (At 2 Trailing)))

-- why what stands behind such a front stands for nothing: the fault of the plan, or that anything follows where there is none
abbrev pub IsRefusedBehind : Instance → Front → List ℕ → Fault → Type 0
IsRefusedBehind i front.Plan rest fault = IsPlanFaultBehind i front.Plan rest fault
IsRefusedBehind i front.Headed rest fault = IsPlanFaultBehind i front.Headed rest fault
IsRefusedBehind i front.Bare rest fault = IsMore rest fault
IsRefusedBehind i front.NoPlan rest fault = IsMore rest fault

-- the bytes in a plan's place are at this fault
pub record IsRefusedPlace (i : Instance) (bytes : List ℕ) (fault : Fault) : Type 0 where
  pub begun : Front
  pub rest : List ℕ
  pub begins : BeginsWith bytes begun rest
  pub refused : IsRefusedBehind i begun rest fault

-- ---- what a bound says of it

-- the first delay that isn't asked for: that of the given plan, or one tick past the horizon
abbrev pub limit_of : Instance → Option ℕ → ℕ
limit_of i None = i.cluster.horizon + 1
limit_of i (Some d) = d

-- what a bound says: of a plan of just that delay, that it is a least one; past the horizon, that there is none; and else both
-- ends of what is left
abbrev pub IsJudgementOf : Instance → Option ℕ → ℕ → Judgement → Type 0
IsJudgementOf i best low (Least d) = (best ≡ Some d) × (low ≡ d)
IsJudgementOf i best low NoPlan = (best ≡ None) × (low ≡ i.cluster.horizon + 1)
IsJudgementOf i best low (Between told given) = (told ≡ low) × ((given ≡ best) × (low < limit_of i best))

-- some valid plan has the delay, where one is given
abbrev pub IsReached : Instance → Option ℕ → Type 0
IsReached i None = Unit {0}
IsReached i (Some d) = (plan : Table) × (IsValid i plan × (delay i plan ≡ d))

-- what is judged of the bytes of an instance, of what is given in a plan's place, and of a certificate, of which so many are read
pub record IsJudged (limit : ℕ) (instance plan certificate : List ℕ) (judgement : Judgement) : Type 0 where
  pub problem : Instance
  pub has_instance : HasInstance instance problem
  pub best : Option ℕ
  pub stands : StandsFor problem plan best
  pub low : ℕ
  pub has_bound : HasBound limit problem certificate low
  pub is : IsJudgementOf problem best low judgement

-- ---- how it is told

-- the words of a judgement
abbrev pub judgement_text : Judgement → List ℕ
judgement_text (Least d) = codes "least " ++ decimal d
judgement_text NoPlan = codes "none"
judgement_text (Between low None) = codes "between " ++ (decimal low ++ codes " none")
judgement_text (Between low (Some d)) = codes "between " ++ (decimal low ++ (codes " " ++ decimal d))

-- its line
abbrev pub judgement_line : Judgement → List ℕ
judgement_line judgement = judgement_text judgement ++ 10 ∷ []

-- the end at which it is told
abbrev pub end_of : Judgement → End
end_of (Least d) = Done
end_of NoPlan = Absent
end_of (Between low best) = Stopped

-- a text that tells what is judged, at the end at which it is told
pub record IsToldAt (limit : ℕ) (instance plan certificate : List ℕ) (end : End) (text : List ℕ) : Type 0 where
  pub judgement : Judgement
  pub is : IsJudged limit instance plan certificate judgement
  pub ends : end ≡ end_of judgement
  pub text_is : text ≡ judgement_line judgement

-- ---- why nothing is told

-- the instance is stated, something stands in a plan's place, and the certificate's bytes are at this fault
pub record IsUnbounded (limit : ℕ) (instance plan certificate : List ℕ) (fault : Fault) : Type 0 where
  pub problem : Instance
  pub has_instance : HasInstance instance problem
  pub best : Option ℕ
  pub stands : StandsFor problem plan best
  pub refused : IsCertificateFault limit problem certificate fault

-- why the bytes of an instance and of what is given in a plan's place stand for nothing: for the instance, or else for the place
abbrev pub HasNoStanding : List ℕ → List ℕ → Fault → Type 0
HasNoStanding instance plan fault = IsRefusedAs IsRefusedPlace instance plan fault

-- why nothing is judged: for those two, or else for the certificate
abbrev pub IsUnjudged : (limit : ℕ) → List ℕ → List ℕ → List ℕ → Fault → Type 0
IsUnjudged limit instance plan certificate (CertificateText error) = IsUnbounded limit instance plan certificate (CertificateText error)
IsUnjudged limit instance plan certificate (Certificate fault) = IsUnbounded limit instance plan certificate (Certificate fault)
IsUnjudged limit instance plan certificate (Unread source.Certificate) = IsUnbounded limit instance plan certificate (Unread source.Certificate)
IsUnjudged limit instance plan certificate (TooLong source.Certificate) = IsUnbounded limit instance plan certificate (TooLong source.Certificate)
IsUnjudged limit instance plan certificate fault = HasNoStanding instance plan fault

-- what `judge` answers of the bytes of an instance, of a plan and of a certificate, and what it writes
abbrev pub IsJudgeAnswer : (limit : ℕ) → List ℕ → List ℕ → List ℕ → Option (List ℕ) → Option (List ℕ) → End → Type 0
IsJudgeAnswer limit instance plan certificate =
    IsCommandAnswer (IsToldAt limit instance plan certificate) (IsUnjudged limit instance plan certificate)

-- ---- steps on the way

-- the bytes of an instance, and of what stands for this in a plan's place
pub record IsStanding (instance plan : List ℕ) (standing : Standing) : Type 0 where
  pub has_instance : HasInstance instance standing.instance
  pub stands : StandsFor standing.instance plan standing.best

-- the fault is told before a certificate is read
abbrev pub IsBeforeCertificate : Fault → Type 0
IsBeforeCertificate (InstanceText error) = Unit {0}
IsBeforeCertificate (PlanText error) = Unit {0}
IsBeforeCertificate (Plan fault) = Unit {0}
IsBeforeCertificate (StatedDelay d) = Unit {0}
IsBeforeCertificate (Unread source.Instance) = Unit {0}
IsBeforeCertificate (Unread source.Plan) = Unit {0}
IsBeforeCertificate (TooLong source.Instance) = Unit {0}
IsBeforeCertificate (TooLong source.Plan) = Unit {0}
IsBeforeCertificate _ = ⊥

-- how the writing of a judgement ends: at its own end; or the writer failed and gained a prefix of its line; or memory was refused
-- and it gained nothing
abbrev pub IsWritingJudgement : Judgement → Option (List ℕ) → Option (List ℕ) → End → Type 0
IsWritingJudgement judgement old new end =
    ((end ≡ end_of judgement) × Appends old new (judgement_line judgement))
    ⊎ (((end ≡ Refused (Unwritten sink.Out)) × AppendsPart old new (judgement_line judgement))
    ⊎ ((end ≡ Refused Memory) × Keeps old new))
