-- What commands on a cycle's rounds answer of the bytes of an instance and of a plan, and what they write.
use Rattle.std.specs.Prelude.{◌≡◌, ℕ, ◌<◌, ◌≤◌, List, Option, None, Some}
use Rattle.ttp_model.specs.declared.plan.Plan.{Plan as Table}
use Rattle.ttp_model.specs.Instance.{Instance}
use Rattle.tt_layout.specs.Cycle.{cycle_rounds}
use Rattle.plan_cycles.specs.Cycles.{whole_rounds}
use Rattle.plan_cycles.specs.Text.{IsPeriodText}
use Rattle.plan_cycles.specs.Rounds.{loads_in, too_many_slots}
use Rattle.command_streams.specs.declared.ending.Fault.{Fault}
use Rattle.command_streams.specs.declared.ending.Fault.TheVariants.{LongTables, Memory, ShortPeriod, ShortTables}
use Rattle.command_streams.specs.declared.ending.Rounds.{Rounds}
use Rattle.command_streams.specs.declared.ending.End.{End}
use Rattle.command_streams.specs.Outcomes.{IsCommandAnswer, OnDone}
use Rattle.plan_commands.specs.declared.verdict.Verified.{Verified}
use Rattle.plan_commands.specs.Verdicts.{IsRefused, IsTold, IsVerified}

-- a plan's cycle has these rounds, and there are fewer
pub record AreTooFew (cycle there : ℕ) (rounds : Rounds) : Type 0 where
  pub needed : rounds.needed ≡ cycle
  pub held : rounds.held ≡ there
  pub few : there < cycle

-- why `period` doesn't tell of a valid plan
abbrev pub IsShortPeriod : ℕ → Instance → Table → Fault → Type 0
IsShortPeriod period i plan Memory = Unit {0}
IsShortPeriod period i plan (ShortPeriod rounds) = AreTooFew (cycle_rounds i plan) (whole_rounds period i plan) rounds
IsShortPeriod period i plan _ = ⊥

-- what it tells of one
pub record IsHeldText (period : ℕ) (i : Instance) (plan : Table) (text : List ℕ) : Type 0 where
  pub held : cycle_rounds i plan ≤ whole_rounds period i plan
  pub told : IsPeriodText period i plan text

-- why `tables` doesn't tell of so many rounds of a valid plan: they are too few, or else have too many slots
abbrev pub AreUntold : ℕ → Instance → Table → Fault → Type 0
AreUntold rounds i plan Memory = Unit {0}
AreUntold rounds i plan (ShortTables given) = AreTooFew (cycle_rounds i plan) rounds given
AreUntold rounds i plan (LongTables count) = (cycle_rounds i plan ≤ rounds) × (too_many_slots i rounds ≡ Some count)
AreUntold rounds i plan _ = ⊥

-- what it tells of them
pub record IsLoadsOf (rounds : ℕ) (i : Instance) (plan : Table) (text : List ℕ) : Type 0 where
  pub enough : cycle_rounds i plan ≤ rounds
  pub few : too_many_slots i rounds ≡ None
  pub is : text ≡ loads_in rounds i plan

-- an instance and a plan are verified, and nothing is told of them, for this fault
pub record IsUntold (Untold : Instance → Table → Fault → Type 0) (instance plan : List ℕ) (fault : Fault) : Type 0 where
  pub verified : Verified
  pub is : IsVerified instance plan verified
  pub untold : Untold verified.instance verified.plan fault

-- why such a command refuses: as `verify`, and then for the rounds
abbrev pub IsRoundsRefused : (Instance → Table → Fault → Type 0) → List ℕ → List ℕ → Fault → Type 0
IsRoundsRefused Untold instance plan (ShortPeriod rounds) = IsUntold Untold instance plan (ShortPeriod rounds)
IsRoundsRefused Untold instance plan (ShortTables rounds) = IsUntold Untold instance plan (ShortTables rounds)
IsRoundsRefused Untold instance plan (LongTables count) = IsUntold Untold instance plan (LongTables count)
IsRoundsRefused Untold instance plan fault = IsRefused instance plan fault

-- what it answers of bytes, and what it writes
abbrev pub IsRoundsAnswer : (Instance → Table → List ℕ → Type 0) → (Instance → Table → Fault → Type 0) → List ℕ → List ℕ → Option (List ℕ) → Option (List ℕ) → End → Type 0
IsRoundsAnswer Tells Untold instance plan =
    IsCommandAnswer (OnDone (IsTold (IsVerified instance plan) Tells)) (IsRoundsRefused Untold instance plan)

-- what `period` answers
abbrev pub IsPeriodAnswer : ℕ → List ℕ → List ℕ → Option (List ℕ) → Option (List ℕ) → End → Type 0
IsPeriodAnswer period = IsRoundsAnswer (IsHeldText period) (IsShortPeriod period)

-- what `tables` answers of so many rounds
abbrev pub IsTablesAnswer : ℕ → List ℕ → List ℕ → Option (List ℕ) → Option (List ℕ) → End → Type 0
IsTablesAnswer rounds = IsRoundsAnswer (IsLoadsOf rounds) (AreUntold rounds)
