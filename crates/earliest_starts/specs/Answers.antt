-- The earliest plan of a complete choice, and what an answer says.
use Rattle.std.specs.Prelude.{◌≡◌, ◌≤◌, length}
use Rattle.ttp_model.specs.declared.plan.Plan.{Plan}
use Rattle.ttp_model.specs.Lists.{EachBelow}
use Rattle.ttp_model.specs.Instance.{Instance}
use Rattle.ttp_model.specs.Plans.{IsValid, start_of}
use Rattle.ttp_model.specs.Delays.{delay}
use Rattle.tt_choice.specs.Choice.{Choice, IsIn}
use Rattle.earliest_starts.specs.declared.answer.Earliest.{Earliest}
use Rattle.earliest_starts.specs.declared.answer.Earliest.TheVariants.{Plan as AsPlan, Clash as AsClash}
use Rattle.earliest_starts.specs.Clashes.{WaitsUntil, IsClash}

-- no valid plan is in the choice
abbrev pub IsBarren : Instance → Choice → Type 0
IsBarren i c = (plan : Plan) → IsIn i c plan → ¬ IsValid i plan

-- a valid plan of the choice in which each process starts as early as in any other, and has reasons to start no earlier
pub record IsEarliest (i : Instance) (c : Choice) (plan : Plan) : Type 0 where
  pub valid : IsValid i plan
  pub chosen : IsIn i c plan
  pub waits : EachBelow (length i.processes) (λ p. WaitsUntil i c p (start_of plan p))
  pub least : (other : Plan) → IsValid i other → IsIn i c other
      → EachBelow (length i.processes) (λ p. start_of plan p ≤ start_of other p)

-- a plan that is the earliest, with its delay in ticks; or a clash, and then no valid plan
abbrev pub IsEarliestAnswer : Instance → Choice → Earliest → Type 0
IsEarliestAnswer i c (AsPlan plan ticks) = IsEarliest i c plan × (ticks ≡ delay i plan)
IsEarliestAnswer i c (AsClash clash) = IsClash i c clash × IsBarren i c
