-- What is kept of a search as it goes on, and how one ends that had to keep its best plan.
use Rattle.std.specs.Prelude.{◌≡◌, ◌≤◌, ℕ, List, Bool, cond}
use Rattle.ttp_model.specs.declared.plan.Plan.{Plan as Table}
use Rattle.ttp_model.specs.Instance.{Instance}
use Rattle.ttp_model.specs.Plans.{IsValid}
use Rattle.ttp_model.specs.Delays.{delay}
use Rattle.plan_format.specs.Spelling.{SpellsPlan}
use Rattle.command_streams.specs.declared.ending.Sink.TheVariants as sink
use Rattle.command_streams.specs.declared.ending.Fault.TheVariants.{Unwritten}
use Rattle.command_streams.specs.declared.ending.End.{End}
use Rattle.command_streams.specs.declared.ending.End.TheVariants.{Refused, RefusedOf}

-- the text of a valid plan of the instance that takes so many ticks, and says so
pub record IsPlanText (i : Instance) (text : List ℕ) (ticks : ℕ) : Type 0 where
  pub plan : Table
  pub valid : IsValid i plan
  pub takes : ticks ≡ delay i plan
  pub spelled : SpellsPlan i text plan ticks

-- a file that holds these bytes holds no plan that takes fewer ticks
abbrev pub HoldsNoBetter : Instance → List ℕ → ℕ → Type 0
HoldsNoBetter i bytes ticks = (held : ℕ) → IsPlanText i bytes held → ticks ≤ held

-- the end of a search whose best plan was to be kept: that it couldn't be is told where nothing else is
abbrev pub kept_end : Bool → End → End
kept_end failed (Refused fault) = Refused fault
kept_end failed (RefusedOf release fault) = RefusedOf release fault
kept_end failed end = cond failed (Refused (Unwritten sink.Plan)) end
