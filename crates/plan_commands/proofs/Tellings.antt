-- A text that is told, once it is written, is a command's outcome; and what a reader gave is verified as its text is.
use Rattle.std.proofs.Common.{◌≡◌, ℕ, List, Option, None, Some, Result, Ok, Err, IfSome, MatchResult, ap, sym}
use Rattle.ttp_model.specs.declared.plan.Plan.{Plan as Table}
use Rattle.ttp_model.specs.Instance.{Instance}
use Rattle.ttp_model.specs.Delays.{delay}
use Rattle.plan_commands.specs.declared.verdict.Verified.{Verified}
use Rattle.command_streams.specs.declared.ending.Sink.TheVariants as sink
use Rattle.command_streams.specs.declared.ending.Source.TheVariants as source
use Rattle.command_streams.specs.declared.ending.Fault.{Fault}
use Rattle.command_streams.specs.declared.ending.Fault.TheVariants.{Memory, PlanText, Plan, StatedDelay, Unwritten}
use Rattle.command_streams.specs.declared.ending.End.{End}
use Rattle.command_streams.specs.declared.ending.End.TheVariants.{Done, Refused, RefusedOf}
use Rattle.command_streams.specs.Outcomes.{IfRefused, IsCommandAnswer, IsWriting, IsWritingUnlessMemory, OnDone}
use Rattle.command_streams.specs.declared.limits.TheConstants.{PLAN_LIMIT}
use Rattle.command_streams.specs.Streams.{IsReadFault}
use Rattle.command_streams.specs.Instances.{HasInstance, IsOfInstance, StatesSome}
use Rattle.command_streams.proofs.Outcomes.{keeps, made_outcome, written_outcome}
use Rattle.command_streams.proofs.StatedOnce.{by_read_fault}
use Rattle.plan_commands.specs.Verdicts.{IsPlanFault, IsRefused, IsTold, IsValidLine, IsVerdict, IsVerified, IsVerifiedPlan, valid_line}

-- the line of a delay is told of the plan that has it
pub verdict_outcome : (IsVerifiedAs : Verified → Type 0) (IsRefusedBy : Fault → Type 0) (v : Verified) → IsVerifiedAs v
    → delay v.instance v.plan ≡ v.delay → IsRefusedBy Memory → (old new : Option (List ℕ)) (end : End)
    → IsWritingUnlessMemory (valid_line v.delay) old new end → IsCommandAnswer (OnDone (IsTold IsVerifiedAs IsValidLine)) IsRefusedBy old new end
verdict_outcome IsVerifiedAs IsRefusedBy v is has_delay memory old new end writing =
    made_outcome (IsTold IsVerifiedAs IsValidLine) IsRefusedBy (valid_line v.delay)
    (record { verified = v; is = is; tells = ap valid_line (sym has_delay) }) old new memory end writing

module _ (instance plan : List ℕ) (i : Instance) (has_instance : HasInstance instance i) where
  verified_with : (v : Verified) → IsVerifiedPlan i plan v → IsVerified instance plan v
  verified_with v is = record { has_instance = rw is.of has_instance; has_plan = rw is.of is.has_plan }

  refused_with : (fault : Fault) → IsPlanFault i plan fault → IsRefused instance plan fault
  refused_with Memory refused = tt
  refused_with (PlanText error) refused = record { problem = i; has_instance = has_instance; refused = refused }
  refused_with (Plan fault) refused = record { problem = i; has_instance = has_instance; refused = refused }
  refused_with (StatedDelay d) refused = record { problem = i; has_instance = has_instance; refused = refused }
  refused_with fault refused = absurd refused

  pub judged_with : (result : Result Verified Fault) → MatchResult result (IsVerifiedPlan i plan) (IsPlanFault i plan)
      → MatchResult result (IsVerified instance plan) (IsRefused instance plan)
  judged_with (Ok v) is = verified_with v is
  judged_with (Err fault) refused = refused_with fault refused

-- so it is of what two readers tell, where they do
pub judged_of_readers : (a b : Option (List ℕ)) (i : Instance) (bytes : List ℕ) (result : Result Verified Fault)
    → IfSome a (λ instance. HasInstance instance i) → IfSome b (λ plan. bytes ≡ plan)
    → MatchResult result (IsVerifiedPlan i bytes) (IsPlanFault i bytes)
    → IfSome a (λ instance. IfSome b (λ plan. MatchResult result (IsVerified instance plan) (IsRefused instance plan)))
judged_of_readers None b i bytes result has_instance is judged = tt
judged_of_readers (Some instance) None i bytes result has_instance is judged = tt
judged_of_readers (Some instance) (Some plan) i bytes result has_instance is judged = judged_with instance plan i has_instance result (rw is at judged)

-- the second reader gave no text
pub unread_of_readers : (a b : Option (List ℕ)) (i : Instance) (fault : Fault) → IfSome a (λ instance. HasInstance instance i)
    → IsReadFault source.Plan PLAN_LIMIT b fault → IfSome a (λ instance. IfSome b (λ plan. IsRefused instance plan fault))
unread_of_readers None b i fault has is = tt
unread_of_readers (Some instance) None i fault has is = tt
unread_of_readers (Some instance) (Some plan) i fault has is =
    let states : StatesSome instance = record { problem = i; has_instance = has } in
    by_read_fault (IsRefused instance plan) source.Plan PLAN_LIMIT (Some plan) tt states (λ long. (states, long)) fault is

pub verdict_of_readers : (a b : Option (List ℕ)) (v : Verified) (old new : Option (List ℕ)) (end : End)
    → IfSome a (λ instance. IfSome b (λ plan. IsVerified instance plan v)) → IsWritingUnlessMemory (valid_line v.delay) old new end
    → IfSome a (λ instance. IfSome b (λ plan. IsVerdict instance plan old new end))
verdict_of_readers None b v old new end is writing = tt
verdict_of_readers (Some instance) None v old new end is writing = tt
verdict_of_readers (Some instance) (Some plan) v old new end is writing =
    verdict_outcome (IsVerified instance plan) (IsRefused instance plan) v is is.has_plan.has_delay tt old new end writing

-- a text that is told of what two readers tell, of which a plan is verified so
module _ (IsVerifiedAs : List ℕ → List ℕ → Verified → Type 0) (Tells : Instance → Table → List ℕ → Type 0) (RefusedBy : List ℕ → List ℕ → Fault → Type 0) where
  pub told_of_readers : (a b : Option (List ℕ)) (v : Verified) (text : List ℕ) (old new : Option (List ℕ)) (end : End)
      → IfSome a (λ instance. IfSome b (λ plan. IsVerifiedAs instance plan v)) → Tells v.instance v.plan text → IsWriting text old new end
      → IfSome a (λ instance. IfSome b (λ plan. IsCommandAnswer (OnDone (IsTold (IsVerifiedAs instance plan) Tells)) (RefusedBy instance plan) old new end))
  told_of_readers None b v text old new end is tells writing = tt
  told_of_readers (Some instance) None v text old new end is tells writing = tt
  told_of_readers (Some instance) (Some plan) v text old new end is tells writing =
      written_outcome (IsTold (IsVerifiedAs instance plan) Tells) (RefusedBy instance plan) text (record { verified = v; is = is; tells = tells })
      old new end writing

  -- a text that is made and told of it
  pub made_of_readers : ((instance plan : List ℕ) → RefusedBy instance plan Memory)
      → (a b : Option (List ℕ)) (v : Verified) (text : List ℕ) (old new : Option (List ℕ)) (end : End)
      → IfSome a (λ instance. IfSome b (λ plan. IsVerifiedAs instance plan v)) → Tells v.instance v.plan text → IsWritingUnlessMemory text old new end
      → IfSome a (λ instance. IfSome b (λ plan. IsCommandAnswer (OnDone (IsTold (IsVerifiedAs instance plan) Tells)) (RefusedBy instance plan) old new end))
  made_of_readers may None b v text old new end is tells writing = tt
  made_of_readers may (Some instance) None v text old new end is tells writing = tt
  made_of_readers may (Some instance) (Some plan) v text old new end is tells writing =
      made_outcome (IsTold (IsVerifiedAs instance plan) Tells) (RefusedBy instance plan) text (record { verified = v; is = is; tells = tells }) old new
      (may instance plan) end writing

-- what is answered of a plan is answered of the texts that spell it
module _ (IsText Tells : List ℕ → Type 0) (told : (text : List ℕ) → IsText text → Tells text) where
  told_at : (end : End) (text : List ℕ) → OnDone IsText end text → OnDone Tells end text
  told_at Done text is = told text is
  told_at end text is = absurd is

  module _ (IsUndone IsRefusedBy : Fault → Type 0) (refused : (fault : Fault) → IsUndone fault → IsRefusedBy fault) (old new : Option (List ℕ)) where
    pub answered : (end : End) → IsCommandAnswer (OnDone IsText) IsUndone old new end → IsCommandAnswer (OnDone Tells) IsRefusedBy old new end
    answered Done written = record { text = written.text; is = told written.text written.is; appends = written.appends }
    answered (Refused (Unwritten sink.Out)) cut = record { at = cut.at; text = cut.text; is = told_at cut.at cut.text cut.is; part = cut.part }
    answered (Refused fault) why = (refused _ why.0, why.1)
    answered (RefusedOf release fault) never = absurd never
    answered end written = absurd written.is

-- what is no fault of the instance says nothing of one
pub never_of_instance : (Holds : Type 0) (end : End) → IfRefused end (λ fault. ¬ IsOfInstance fault) → IfRefused end (λ fault. IsOfInstance fault → Holds)
never_of_instance Holds (Refused fault) never = λ is. absurd (never is)
never_of_instance Holds end never = tt

-- a command that is refused has written nothing
module _ (IsTextAt : End → List ℕ → Type 0) (IsRefusedBy : Fault → Type 0) (never : ¬ IsRefusedBy (Unwritten sink.Out)) (old : Option (List ℕ)) where
  pub refused_outcome : (fault : Fault) → IsRefusedBy fault → IsCommandAnswer IsTextAt IsRefusedBy old old (Refused fault)
  refused_outcome (Unwritten sink.Out) refused = absurd (never refused)
  refused_outcome fault refused = (refused, keeps old)

pub refused_of_readers : (IsTextAt : List ℕ → List ℕ → End → List ℕ → Type 0) (RefusedBy : List ℕ → List ℕ → Fault → Type 0)
    → ((instance plan : List ℕ) → ¬ RefusedBy instance plan (Unwritten sink.Out)) → (a b old : Option (List ℕ)) (fault : Fault)
    → IfSome a (λ instance. IfSome b (λ plan. RefusedBy instance plan fault))
    → IfSome a (λ instance. IfSome b (λ plan. IsCommandAnswer (IsTextAt instance plan) (RefusedBy instance plan) old old (Refused fault)))
refused_of_readers IsTextAt RefusedBy never None b old fault refused = tt
refused_of_readers IsTextAt RefusedBy never (Some instance) None old fault refused = tt
refused_of_readers IsTextAt RefusedBy never (Some instance) (Some plan) old fault refused =
    refused_outcome (IsTextAt instance plan) (RefusedBy instance plan) (never instance plan) old fault refused
