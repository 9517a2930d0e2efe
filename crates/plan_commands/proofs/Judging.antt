-- What three readers give is judged as their texts are, and the line of a judgement is the outcome of `judge`.
use Rattle.std.proofs.Common.{◌≡◌, ℕ, ◌≤◌, List, Option, None, Some, IfSome, arith, refl, inl, inr}
use Rattle.std.specs.Io.KnownBytes.{Appends}
use Rattle.ttp_model.specs.Instance.{Instance}
use Rattle.command_streams.specs.declared.ending.Source.TheVariants as source
use Rattle.command_streams.specs.declared.ending.Fault.{Fault}
use Rattle.command_streams.specs.declared.ending.Fault.TheVariants.{InstanceText, Memory, PlanText, Plan, StatedDelay, CertificateText, Certificate, TooLong, Unread}
use Rattle.command_streams.specs.declared.ending.End.{End}
use Rattle.command_streams.specs.declared.ending.End.TheVariants.{Refused}
use Rattle.command_streams.specs.Instances.{HasInstance}
use Rattle.command_streams.proofs.Outcomes.{keeps}
use Rattle.plan_commands.specs.declared.front.Front.{Front}
use Rattle.plan_commands.specs.declared.front.Front.TheVariants as front
use Rattle.plan_commands.specs.declared.judge.Standing.{Standing}
use Rattle.plan_commands.specs.declared.judge.Judgement.{Judgement}
use Rattle.plan_commands.specs.declared.judge.Judgement.TheVariants.{Least, NoPlan, Between}
use Rattle.plan_commands.specs.Certified.{HasBound, IsCertificateFault}
use Rattle.plan_commands.specs.Judged.{HasNoStanding, HasPlanOf, IsJudgeAnswer, IsJudged, IsJudgementOf, IsStanding, IsToldAt, IsWritingJudgement, StandsBehind, StandsFor, end_of, judgement_line, limit_of}

-- ---- a bound is at most what it is held against

plan_above : (limit : ℕ) (i : Instance) (text certificate : List ℕ) (best : Option ℕ) (low : ℕ) → HasPlanOf i text best → HasBound limit i certificate low → low ≤ limit_of i best
plan_above limit i text certificate None low has bound = absurd has
plan_above limit i text certificate (Some d) low has bound =
    omega (arith, bound.bound has.0 has.1.valid, has.1.has_delay)

horizon_above : (limit : ℕ) (i : Instance) (certificate : List ℕ) (best : Option ℕ) (low : ℕ) → best ≡ None → HasBound limit i certificate low → low ≤ limit_of i best
horizon_above limit i certificate best low is bound =
    rw is (omega (arith, bound.proves.low, bound.low_is))

above : (limit : ℕ) (i : Instance) (begun : Front) (rest certificate : List ℕ) (best : Option ℕ) (low : ℕ) → StandsBehind i begun rest best
    → HasBound limit i certificate low → low ≤ limit_of i best
above limit i front.Plan rest certificate best low stands bound = plan_above limit i rest certificate best low stands bound
above limit i front.Headed rest certificate best low stands bound = plan_above limit i rest certificate best low stands bound
above limit i front.Bare rest certificate best low stands bound = horizon_above limit i certificate best low stands.1 bound
above limit i front.NoPlan rest certificate best low stands bound = horizon_above limit i certificate best low stands.1 bound

pub bound_below : (limit : ℕ) (i : Instance) (plan certificate : List ℕ) (best : Option ℕ) (low : ℕ) → StandsFor i plan best → HasBound limit i certificate low
    → low ≤ limit_of i best
bound_below limit i plan certificate best low stands bound = above limit i stands.begun stands.rest certificate best low stands.stands bound

-- ---- a judgement that is told

module _ (limit : ℕ) (instance plan certificate : List ℕ) (old : Option (List ℕ)) where
  at_end : (judgement : Judgement) (text : List ℕ) (new : Option (List ℕ)) → IsToldAt limit instance plan certificate (end_of judgement) text → Appends old new text
      → IsJudgeAnswer limit instance plan certificate old new (end_of judgement)
  at_end (Least d) text new is gains = record { text = text; is = is; appends = gains }
  at_end NoPlan text new is gains = record { text = text; is = is; appends = gains }
  at_end (Between low best) text new is gains = record { text = text; is = is; appends = gains }

  told : (judgement : Judgement) (new : Option (List ℕ)) (end : End) → IsJudged limit instance plan certificate judgement → IsWritingJudgement judgement old new end
      → IsJudgeAnswer limit instance plan certificate old new end
  told judgement new end is writing =
      let said : IsToldAt limit instance plan certificate (end_of judgement) (judgement_line judgement) =
      record { judgement = judgement; is = is; ends = refl; text_is = refl } in
      elim writing [
        | inl whole ↦ rw whole.0 (at_end judgement (judgement_line judgement) new said whole.1)
        | inr other ↦ (elim other [
          | inl part ↦ rw part.0 (record { at = end_of judgement; text = judgement_line judgement; is = said; part = part.1 })
          | inr memory ↦ rw memory.0 (tt, memory.1)
        ])
      ]

  -- ---- faults

  unstanding : (fault : Fault) → HasNoStanding instance plan fault → IsJudgeAnswer limit instance plan certificate old old (Refused fault)
  unstanding (InstanceText error) is = (is, keeps old)
  unstanding Memory is = (tt, keeps old)
  unstanding (Unread source.Instance) is = (tt, keeps old)
  unstanding (Unread source.Plan) is = (is, keeps old)
  unstanding (TooLong source.Instance) is = (is, keeps old)
  unstanding (TooLong source.Plan) is = (is, keeps old)
  unstanding (PlanText error) is = (is, keeps old)
  unstanding (Plan fault) is = (is, keeps old)
  unstanding (StatedDelay d) is = (is, keeps old)
  unstanding fault is = absurd is

  unbounded : (i : Instance) (best : Option ℕ) → HasInstance instance i → StandsFor i plan best → (fault : Fault) → IsCertificateFault limit i certificate fault
      → IsJudgeAnswer limit instance plan certificate old old (Refused fault)
  unbounded i best has stands Memory refused = (tt, keeps old)
  unbounded i best has stands (Unread source.Certificate) refused =
      (record { problem = i; has_instance = has; best = best; stands = stands; refused = refused }, keeps old)
  unbounded i best has stands (TooLong source.Certificate) refused =
      (record { problem = i; has_instance = has; best = best; stands = stands; refused = refused }, keeps old)
  unbounded i best has stands (CertificateText error) refused =
      (record { problem = i; has_instance = has; best = best; stands = stands; refused = refused }, keeps old)
  unbounded i best has stands (Certificate fault) refused =
      (record { problem = i; has_instance = has; best = best; stands = stands; refused = refused }, keeps old)
  unbounded i best has stands fault refused = absurd refused

-- ---- what three readers tell

module _ (limit : ℕ) (old : Option (List ℕ)) where
  pub judged_of_readers : (a b c : Option (List ℕ)) (s : Standing) (low : ℕ) (judgement : Judgement) (new : Option (List ℕ)) (end : End)
      → IfSome a (λ instance. IfSome b (λ plan. IsStanding instance plan s))
      → IfSome c (λ certificate. HasBound limit s.instance certificate low)
      → (low ≤ limit_of s.instance s.best → IsJudgementOf s.instance s.best low judgement)
      → IsWritingJudgement judgement old new end
      → IfSome a (λ instance. IfSome b (λ plan. IfSome c (λ certificate. IsJudgeAnswer limit instance plan certificate old new end)))
  judged_of_readers None b c s low judgement new end standing bound says writing = tt
  judged_of_readers (Some instance) None c s low judgement new end standing bound says writing = tt
  judged_of_readers (Some instance) (Some plan) None s low judgement new end standing bound says writing = tt
  judged_of_readers (Some instance) (Some plan) (Some certificate) s low judgement new end standing bound says writing =
      told limit instance plan certificate old judgement new end (record {
        problem = s.instance;
        has_instance = standing.has_instance;
        best = s.best;
        stands = standing.stands;
        low = low;
        has_bound = bound;
        is = says (bound_below limit s.instance plan certificate s.best low standing.stands bound);
      }) writing

  pub unstanding_of_readers : (a b c : Option (List ℕ)) (fault : Fault) → IfSome a (λ instance. IfSome b (λ plan. HasNoStanding instance plan fault))
      → IfSome a (λ instance. IfSome b (λ plan. IfSome c (λ certificate. IsJudgeAnswer limit instance plan certificate old old (Refused fault))))
  unstanding_of_readers None b c fault refused = tt
  unstanding_of_readers (Some instance) None c fault refused = tt
  unstanding_of_readers (Some instance) (Some plan) None fault refused = tt
  unstanding_of_readers (Some instance) (Some plan) (Some certificate) fault refused = unstanding limit instance plan certificate old fault refused

  pub unbounded_of_readers : (a b c : Option (List ℕ)) (s : Standing) (fault : Fault) → IfSome a (λ instance. IfSome b (λ plan. IsStanding instance plan s))
      → IfSome c (λ certificate. IsCertificateFault limit s.instance certificate fault)
      → IfSome a (λ instance. IfSome b (λ plan. IfSome c (λ certificate. IsJudgeAnswer limit instance plan certificate old old (Refused fault))))
  unbounded_of_readers None b c s fault standing refused = tt
  unbounded_of_readers (Some instance) None c s fault standing refused = tt
  unbounded_of_readers (Some instance) (Some plan) None s fault standing refused = tt
  unbounded_of_readers (Some instance) (Some plan) (Some certificate) s fault standing refused =
      unbounded limit instance plan certificate old s.instance s.best standing.has_instance standing.stands fault refused
