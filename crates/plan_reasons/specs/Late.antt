-- Which processes end too late whatever the plan: for what they wait for alone, by when the longest chain to each process ends. Own profile.
use Rattle.std.specs.Prelude.{ℕ, ◌+◌, List, [], ◌∷◌, ◌++◌, if◌then◌else◌, length, nat_le, slice_index}
use Rattle.std.specs.List.{flat_map, range_with_len}
use Rattle.ttp_model.specs.Instance.{Instance, link_at, message_at, process_at, source_of}
use Rattle.ttp_model.specs.Chains.{least_transfer}
use Rattle.plan_facts.specs.Ends.{must_end_by}
use Rattle.plan_reasons.specs.declared.runs.StartCause.{StartCause}
use Rattle.plan_reasons.specs.declared.runs.StartCause.TheVariants.{Arrival, Link, Release}
use Rattle.plan_reasons.specs.declared.path_parts.ChainPart.{ChainPart}

-- process p, where it begins at this tick
abbrev pub part_from : Instance → ℕ → ℕ → StartCause → ChainPart
part_from i p from cause = record { process = p; from = from; until = from + (process_at i p).wcet; cause = cause }

-- that, where it ends too late
abbrev pub late_part : Instance → ℕ → ℕ → StartCause → List ChainPart
late_part i p from cause = if nat_le (from + (process_at i p).wcet) (must_end_by i p) then [] else part_from i p from cause ∷ []

-- a process at its release
abbrev pub released_late : Instance → ℕ → List ChainPart
released_late i p = late_part i p (process_at i p).release Release

-- the second process of a link, once the longest chain to the first has ended
abbrev pub linked_late : Instance → List ℕ → ℕ → List ChainPart
linked_late i ends l = late_part i (link_at i l).after (slice_index ends (link_at i l).before) (Link l)

-- when a message is there, at the earliest
abbrev pub there_at : Instance → List ℕ → ℕ → ℕ
there_at i ends m = slice_index ends (message_at i m).sender + least_transfer i (source_of i m)

-- a receiver then
abbrev pub arrived_late : Instance → ℕ → ℕ → ℕ → List ChainPart
arrived_late i m from q = late_part i q from (Arrival m)

-- all receivers
abbrev pub receivers_late : Instance → List ℕ → ℕ → List ChainPart
receivers_late i ends m = flat_map (arrived_late i m (there_at i ends m)) (message_at i m).receivers

-- all: by releases, links and messages
abbrev pub late_parts : Instance → List ℕ → List ChainPart
late_parts i ends =
    flat_map (released_late i) (range_with_len 0 (length i.processes))
    ++ (flat_map (linked_late i ends) (range_with_len 0 (length i.links)) ++ flat_map (receivers_late i ends) (range_with_len 0 (length i.messages)))
