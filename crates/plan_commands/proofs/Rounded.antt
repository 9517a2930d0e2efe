-- What is told of a valid plan, or why it isn't, is an answer of what two readers tell, where they do.
use Rattle.std.proofs.Common.{ℕ, List, Option, None, Some, IfSome}
use Rattle.ttp_model.specs.declared.plan.Plan.{Plan as Table}
use Rattle.ttp_model.specs.Instance.{Instance}
use Rattle.command_streams.specs.declared.ending.Fault.{Fault}
use Rattle.command_streams.specs.declared.ending.Fault.TheVariants.{LongTables, Memory, ShortPeriod, ShortTables}
use Rattle.command_streams.specs.declared.ending.End.{End}
use Rattle.command_streams.specs.declared.ending.End.TheVariants.{Refused}
use Rattle.command_streams.specs.Outcomes.{IsCommandAnswer, OnDone}
use Rattle.plan_commands.specs.declared.verdict.Verified.{Verified}
use Rattle.plan_commands.specs.Verdicts.{IsRefused, IsTold, IsVerified}
use Rattle.plan_commands.proofs.Tellings.{answered, refused_outcome}
use Rattle.plan_commands.specs.Periods.{AreUntold, IsRoundsAnswer, IsRoundsRefused, IsShortPeriod}

module _ (instance plan : List ℕ) (v : Verified) (is : IsVerified instance plan v) where
  -- `period` doesn't tell of it
  pub short_period : (period : ℕ) (fault : Fault) → IsShortPeriod period v.instance v.plan fault → IsRoundsRefused (IsShortPeriod period) instance plan fault
  short_period period Memory why = tt
  short_period period (ShortPeriod rounds) why = record { verified = v; is = is; untold = why }
  short_period period fault why = absurd why

  -- and `tables` doesn't of so many rounds
  pub untold_rounds : (rounds : ℕ) (fault : Fault) → AreUntold rounds v.instance v.plan fault → IsRoundsRefused (AreUntold rounds) instance plan fault
  untold_rounds rounds Memory why = tt
  untold_rounds rounds (ShortTables given) why = record { verified = v; is = is; untold = why }
  untold_rounds rounds (LongTables count) why = record { verified = v; is = is; untold = why }
  untold_rounds rounds fault why = absurd why

module _ (Tells : Instance → Table → List ℕ → Type 0) (Untold : Instance → Table → Fault → Type 0) where
  pub told_of_readers : ((instance plan : List ℕ) (v : Verified) → IsVerified instance plan v → (fault : Fault) → Untold v.instance v.plan fault
      → IsRoundsRefused Untold instance plan fault)
      → (a b : Option (List ℕ)) (v : Verified) (old new : Option (List ℕ)) (end : End) → IfSome a (λ instance. IfSome b (λ plan. IsVerified instance plan v))
      → IsCommandAnswer (OnDone (Tells v.instance v.plan)) (Untold v.instance v.plan) old new end
      → IfSome a (λ instance. IfSome b (λ plan. IsRoundsAnswer Tells Untold instance plan old new end))
  told_of_readers refused None b v old new end is told = tt
  told_of_readers refused (Some instance) None v old new end is told = tt
  told_of_readers refused (Some instance) (Some plan) v old new end is told =
      answered (Tells v.instance v.plan) (IsTold (IsVerified instance plan) Tells) (λ text tells. record { verified = v; is = is; tells = tells })
      (Untold v.instance v.plan) (IsRoundsRefused Untold instance plan) (refused instance plan v is) old new end told

  -- the plan isn't verified
  module _ (instance plan : List ℕ) where
    as_verdict : (fault : Fault) → IsRefused instance plan fault → IsRoundsRefused Untold instance plan fault
    as_verdict (ShortPeriod rounds) refused = absurd refused
    as_verdict (ShortTables rounds) refused = absurd refused
    as_verdict (LongTables count) refused = absurd refused
    as_verdict fault refused = refused

  pub refused_of_readers : (a b old : Option (List ℕ)) (fault : Fault) → IfSome a (λ instance. IfSome b (λ plan. IsRefused instance plan fault))
      → IfSome a (λ instance. IfSome b (λ plan. IsRoundsAnswer Tells Untold instance plan old old (Refused fault)))
  refused_of_readers None b old fault refused = tt
  refused_of_readers (Some instance) None old fault refused = tt
  refused_of_readers (Some instance) (Some plan) old fault refused =
      refused_outcome (OnDone (IsTold (IsVerified instance plan) Tells)) (IsRoundsRefused Untold instance plan) (λ never. never) old fault
      (as_verdict instance plan fault refused)
