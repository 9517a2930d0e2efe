-- What the bytes in a plan's place stand for, behind how they begin.
use Rattle.std.proofs.Common.{◌≡◌, ℕ, List, Option, None, Some, Result, Ok, Err, IfSome, MatchResult, sym, subst}
use Rattle.ttp_model.specs.Instance.{Instance}
use Rattle.command_streams.specs.declared.ending.Fault.{Fault}
use Rattle.command_streams.specs.Instances.{HasInstance}
use Rattle.plan_commands.specs.declared.front.Front.{Front}
use Rattle.plan_commands.specs.declared.front.Front.TheVariants as front
use Rattle.plan_commands.specs.declared.judge.Standing.{Standing}
use Rattle.plan_commands.specs.Printed.{IsAtFaultOrLong}
use Rattle.plan_commands.specs.Judged.{HasNoStanding, IsRefusedBehind, IsRefusedPlace, IsStanding, StandsFor}
use Rattle.plan_commands.proofs.Prints.{IsOfPlan, behind_kind, refused_as}

refused_behind : (i : Instance) (begun : Front) (rest : List ℕ) (fault : Fault) → IsRefusedBehind i begun rest fault → IsOfPlan fault
refused_behind i front.Plan rest fault is = behind_kind i front.Plan rest fault is
refused_behind i front.Headed rest fault is = behind_kind i front.Headed rest fault is
refused_behind i front.Bare rest fault is = subst IsOfPlan (sym is.1.1) tt
refused_behind i front.NoPlan rest fault is = subst IsOfPlan (sym is.1.1) tt

refused_kind : (i : Instance) (bytes : List ℕ) (fault : Fault) → IsRefusedPlace i bytes fault → IsOfPlan fault
refused_kind i bytes fault is = refused_behind i is.begun is.rest fault is.refused

module _ (instance plan : List ℕ) (i : Instance) (has : HasInstance instance i) where
  standing_with : (s : Standing) → (s.instance ≡ i) × StandsFor i plan s.best → IsStanding instance plan s
  standing_with s is = record { has_instance = rw is.0 has; stands = rw is.0 is.1 }

  judged_with : (result : Result Standing Fault)
      → MatchResult result (λ s. (s.instance ≡ i) × StandsFor i plan s.best) (IsAtFaultOrLong IsRefusedPlace i plan)
      → MatchResult result (IsStanding instance plan) (HasNoStanding instance plan)
  judged_with (Ok s) judged = standing_with s judged
  judged_with (Err fault) judged = refused_as IsRefusedPlace refused_kind instance plan i has fault judged

pub standing_of_readers : (a b : Option (List ℕ)) (i : Instance) (bytes : List ℕ) (result : Result Standing Fault)
    → IfSome a (λ instance. HasInstance instance i) → IfSome b (λ plan. bytes ≡ plan)
    → MatchResult result (λ s. (s.instance ≡ i) × StandsFor i bytes s.best) (IsAtFaultOrLong IsRefusedPlace i bytes)
    → IfSome a (λ instance. IfSome b (λ plan. MatchResult result (IsStanding instance plan) (HasNoStanding instance plan)))
standing_of_readers None b i bytes result has is judged = tt
standing_of_readers (Some instance) None i bytes result has is judged = tt
standing_of_readers (Some instance) (Some plan) i bytes result has is judged = judged_with instance plan i has result (rw is at judged)
