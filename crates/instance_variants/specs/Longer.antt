-- By how much longer some processes may run, all at once: as their windows leave it, and as a plan does. Own profile.
use Rattle.std.specs.Prelude.{ℕ, ◌+◌, ◌-◌, ◌*◌, ◌/◌, ◌≤◌, if◌then◌else◌, List, length}
use Rattle.std.specs.Int.{div_ceil}
use Rattle.ttp_model.specs.declared.plan.Plan.{Plan}
use Rattle.ttp_model.specs.Limits.{most_ticks}
use Rattle.ttp_model.specs.Instance.{Instance, process_at}
use Rattle.ttp_model.specs.Plans.{IsValid}
use Rattle.ttp_model.specs.Delays.{HasNoPlan}
use Rattle.plan_facts.specs.Ends.{must_end_by}
use Rattle.instance_variants.specs.declared.scale.Scale.{Scale}
use Rattle.instance_variants.specs.declared.scale.Scale.TheVariants.{Ticks, Thousandths}
use Rattle.instance_variants.specs.Cut.{is_one_of}
use Rattle.instance_variants.specs.Grown.{grown}
use Rattle.instance_variants.specs.Slack.{least, slack}

-- by how many ticks a process runs longer, with a number: so many, or so many thousandths of its worst-case execution time, rounded up
abbrev pub ticks_of : Scale → ℕ → ℕ → ℕ
ticks_of Ticks x wcet = x
ticks_of Thousandths x wcet = div_ceil (x * wcet) 1000

-- the greatest number with which these are at most so many ticks
abbrev pub number_of : Scale → ℕ → ℕ → ℕ
number_of Ticks ticks wcet = ticks
number_of Thousandths ticks wcet = (1000 * ticks) / wcet

-- the greatest number with which any process could still end by the latest tick that can be said
abbrev pub most_number : ℕ
most_number = 1000 * most_ticks

-- by how many ticks process p runs longer, with a number: by none where it isn't one of these
abbrev pub longer_by : Instance → List ℕ → Scale → ℕ → ℕ → ℕ
longer_by i ps scale x p = if is_one_of ps p then ticks_of scale x (process_at i p).wcet else 0

-- the instance in which these processes run longer, all at once; all else is as it was
abbrev pub longer : Instance → List ℕ → Scale → ℕ → Instance
longer i ps scale x = grown i (longer_by i ps scale x)

-- process p has room for that between its release and when it has to end, whatever the plan
abbrev pub HasRoom : Instance → List ℕ → Scale → ℕ → ℕ → Type 0
HasRoom i ps scale x p = (process_at i p).release + (process_at i p).wcet + longer_by i ps scale x p ≤ must_end_by i p

-- how many ticks are left there beside its worst-case execution time
abbrev pub room : Instance → ℕ → ℕ
room i p = must_end_by i p - ((process_at i p).release + (process_at i p).wcet)

-- the greatest number, at most top, with which process p runs longer by no more than its ticks
abbrev pub allowed_of : Instance → List ℕ → Scale → (ℕ → ℕ) → ℕ → ℕ → ℕ
allowed_of i ps scale ticks top p = if is_one_of ps p then number_of scale (ticks p) (process_at i p).wcet else top

-- the greatest with which each process does
abbrev pub allowed : Instance → List ℕ → Scale → (ℕ → ℕ) → ℕ → ℕ
allowed i ps scale ticks top = least (allowed_of i ps scale ticks top) top (length i.processes)

-- the greatest number for which each of these processes has room
abbrev pub window_margin : Instance → List ℕ → Scale → ℕ
window_margin i ps scale = allowed i ps scale (room i) most_number

-- the greatest, at most top, with which a plan stays valid: all of them use their slack at once
abbrev pub own_margin : Instance → List ℕ → Scale → Plan → ℕ → ℕ
own_margin i ps scale plan top = allowed i ps scale (slack i plan) top

-- some plan is valid where these processes run longer with x, and none where they do with one more
pub record IsGreatestMargin (i : Instance) (ps : List ℕ) (scale : Scale) (x : ℕ) : Type 0 where
  pub plan : Plan
  pub valid : IsValid (longer i ps scale x) plan
  pub none : HasNoPlan (longer i ps scale (x + 1))
