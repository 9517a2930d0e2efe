-- What is said of an answer for a complete choice.
use Rattle.std.specs.Prelude.{ℕ, ◌≤◌, slice_index}
use Rattle.ttp_model.specs.declared.plan.Plan.{Plan}
use Rattle.ttp_model.specs.Instance.{Instance}
use Rattle.ttp_model.specs.Plans.{load_on}
use Rattle.ttp_model.specs.Delays.{delay}
use Rattle.earliest_starts.specs.declared.answer.Earliest.{Earliest}
use Rattle.earliest_starts.specs.declared.answer.Earliest.TheVariants.{Plan as AsPlan, Clash as AsClash}

-- it is a plan
abbrev pub IsPlan : Earliest → Type 0
IsPlan (AsPlan plan ticks) = Unit {0}
IsPlan (AsClash clash) = ⊥

-- a plan that is answered ends with this one or before it
abbrev pub IsNoLater : Instance → Plan → Earliest → Type 0
IsNoLater i other (AsPlan plan ticks) = ticks ≤ delay i other
IsNoLater i other (AsClash clash) = Unit {0}

-- and its frame of node n in round r holds what is put into it on channel k
abbrev pub HasRoom : Instance → ℕ → ℕ → ℕ → Earliest → Type 0
HasRoom i n r k (AsPlan plan ticks) = load_on i plan n r k ≤ slice_index plan.caps n
HasRoom i n r k (AsClash clash) = Unit {0}
