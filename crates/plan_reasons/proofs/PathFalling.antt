-- Along a chain ticks fall: what a process waits for ends before it does.
use Rattle.std.proofs.Common.{◌≡◌, ℕ, ◌+◌, ◌<◌, List, Option, None, Some, length, slice_index, arith, ◌∙◌}
use Rattle.ttp_model.specs.declared.error.Place.TheVariants.{AtProcess}
use Rattle.ttp_model.specs.Instance.{Instance, process_at}
use Rattle.ttp_model.specs.Rules.{IsInstance}
use Rattle.plan_reasons.specs.declared.runs.StartCause.{StartCause}
use Rattle.plan_reasons.specs.declared.runs.StartCause.TheVariants.{Arrival, Behind, CouldStart, Link, Release}
use Rattle.plan_reasons.specs.declared.path_parts.ChainPart.{ChainPart}
use Rattle.plan_reasons.specs.PathChains.{IsCause, IsPart, held_by}
use Rattle.plan_reasons.specs.PathThere.{IsPartThere}
use Rattle.plan_reasons.specs.Runs.{HasCause}

-- how far from tick 0 the longest chain to a process ends, and 0 where there is none
abbrev pub depth : List ℕ → Option ℕ → ℕ
depth ends None = 0
depth ends (Some p) = slice_index ends p + 1

module _ (i : Instance) (ends : List ℕ) where
  cause_there : (p from : ℕ) (cause : StartCause) → IsCause i ends p from cause → HasCause i cause
  cause_there p from Release is = tt
  cause_there p from (Link l) is = is.1.within
  cause_there p from (Arrival m) is = is.2.within
  cause_there p from (Behind q) is = absurd is
  cause_there p from (CouldStart time) is = absurd is

  pub part_there : (part : ChainPart) → IsPart i ends part → IsPartThere i part
  part_there part is = (is.is_there, cause_there part.process part.from part.cause is.for_cause)

  module _ (w : IsInstance i) where
    earlier : (p from : ℕ) (cause : StartCause) → p < length i.processes → from + (process_at i p).wcet ≡ slice_index ends p → IsCause i ends p from cause
        → depth ends (held_by i cause) < depth ends (Some p)
    earlier p from (Behind q) inside runs is = absurd is
    earlier p from (CouldStart time) inside runs is = absurd is
    earlier p from Release inside runs is = omega arith
    earlier p from (Link l) inside runs is = omega (arith, runs, is.1.holds.1, (w.ranges (AtProcess p) inside).wcet_least)
    earlier p from (Arrival m) inside runs is = omega (arith, runs, is.2.holds.1, (w.ranges (AtProcess p) inside).wcet_least)

    pub falls : (part : ChainPart) → IsPart i ends part → depth ends (held_by i part.cause) < depth ends (Some part.process)
    falls part is = earlier part.process part.from part.cause is.is_there (is.runs ∙ is.ends_so) is.for_cause
