-- What `draw` writes of an instance and a valid plan of it: a picture of its cycle.
use Rattle.std.specs.Prelude.{◌≡◌, ℕ, List, Option, None, Some}
use Rattle.ttp_model.specs.declared.plan.Plan.{Plan as Table}
use Rattle.ttp_model.specs.Instance.{Instance}
use Rattle.plan_sheets.specs.declared.pictures.picture.Shown.{Shown}
use Rattle.plan_sheets.specs.Picture.{picture_text, too_many_slots}
use Rattle.plan_commands.specs.declared.verdict.Verified.{Verified}
use Rattle.command_streams.specs.declared.ending.Fault.{Fault}
use Rattle.command_streams.specs.declared.ending.Fault.TheVariants.{Memory, TooManySlots}
use Rattle.command_streams.specs.declared.ending.End.{End}
use Rattle.command_streams.specs.Outcomes.{IsCommandAnswer, OnDone}
use Rattle.plan_commands.specs.Printed.{IsPrinted, IsUnprinted}
use Rattle.plan_commands.specs.Verdicts.{IsTold}

-- what `draw` tells of a valid plan: the text of its picture, which hasn't too many slots
pub record IsPictureText (width : ℕ) (shown : Shown) (i : Instance) (plan : Table) (text : List ℕ) : Type 0 where
  pub few : too_many_slots i plan shown ≡ None
  pub is : text ≡ picture_text i plan width shown

-- why a valid plan isn't drawn
abbrev pub IsUndrawn : Shown → Instance → Table → Fault → Type 0
IsUndrawn shown i plan Memory = Unit {0}
IsUndrawn shown i plan (TooManySlots count) = too_many_slots i plan shown ≡ Some count
IsUndrawn shown i plan _ = ⊥

-- an instance and a printed plan are verified, and its picture would have so many slots, which are too many
pub record IsTooLarge (shown : Shown) (instance plan : List ℕ) (count : ℕ) : Type 0 where
  pub verified : Verified
  pub is : IsPrinted instance plan verified
  pub many : too_many_slots verified.instance verified.plan shown ≡ Some count

-- why `draw` refuses: as `verify`, but for what a search printed in front of the plan, and then for the number of slots
abbrev pub IsDrawRefused : Shown → List ℕ → List ℕ → Fault → Type 0
IsDrawRefused shown instance plan (TooManySlots count) = IsTooLarge shown instance plan count
IsDrawRefused shown instance plan fault = IsUnprinted instance plan fault

-- what `draw` answers of the bytes of an instance and of a plan, and what it writes
abbrev pub IsDrawAnswer : ℕ → Shown → List ℕ → List ℕ → Option (List ℕ) → Option (List ℕ) → End → Type 0
IsDrawAnswer width shown instance plan =
    IsCommandAnswer (OnDone (IsTold (IsPrinted instance plan) (IsPictureText width shown))) (IsDrawRefused shown instance plan)
