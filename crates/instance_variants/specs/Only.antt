-- What an instance is by some of its constraints alone, and what a plan of it says of that. Own profile.
use Rattle.std.specs.Prelude.{ℕ, List, length, map, Bool, ◌&&◌, if◌then◌else◌}
use Rattle.std.specs.List.{range_with_len}
use Rattle.ttp_model.specs.declared.parts.Cluster.{Cluster}
use Rattle.ttp_model.specs.declared.parts.Process.{Process}
use Rattle.ttp_model.specs.declared.parts.Link.{Link}
use Rattle.ttp_model.specs.declared.parts.Message.{Message}
use Rattle.ttp_model.specs.declared.plan.Plan.{Plan}
use Rattle.ttp_model.specs.Limits.{most_ticks}
use Rattle.ttp_model.specs.Instance.{Instance, instance_with, process_at, link_at, message_at}
use Rattle.ttp_model.specs.Network.{indices}
use Rattle.ttp_model.specs.Plans.{round_of, channel_of}
use Rattle.instance_variants.specs.declared.kept.constraints.Constraints.{Constraints}
use Rattle.ttp_model.specs.Lists.{is_set}

-- a cluster with its horizon, if it is kept: without it all may end as late as can be said
abbrev pub cluster_with : Bool → Cluster → Cluster
cluster_with horizon c = record c { horizon = if horizon then c.horizon else most_ticks }

-- a process with its deadline and its release, if they are kept: without them it may end as late as can be said, and start at 0
abbrev pub process_with : Bool → Bool → Process → Process
process_with deadline release p = record p {
  deadline = if deadline then p.deadline else most_ticks;
  release = if release then p.release else 0;
}

-- a message that is to be on both channels, if that is kept
abbrev pub message_with : Bool → Message → Message
message_with both m = record m { both = both && m.both }

-- the links that are kept, by their indices
abbrev pub kept_links : Instance → Constraints → List ℕ
kept_links i K = indices (is_set K.links) (length i.links)

-- the messages that are kept
abbrev pub kept_messages : Instance → Constraints → List ℕ
kept_messages i K = indices (is_set K.messages) (length i.messages)

-- a process of it, by what is kept
abbrev pub process_of : Instance → Constraints → ℕ → Process
process_of i K p = process_with (is_set K.deadlines p) (is_set K.releases p) (process_at i p)

-- a message of it
abbrev pub message_of : Instance → Constraints → ℕ → Message
message_of i K m = message_with (is_set K.both m) (message_at i m)

-- its processes, its links and its messages
abbrev pub only_processes : Instance → Constraints → List Process
only_processes i K = map (process_of i K) (range_with_len 0 (length i.processes))

abbrev pub only_links : Instance → Constraints → List Link
only_links i K = map (link_at i) (kept_links i K)

abbrev pub only_messages : Instance → Constraints → List Message
only_messages i K = map (message_of i K) (kept_messages i K)

-- the instance with these constraints alone: other links and messages go
abbrev pub only : Instance → Constraints → Instance
only i K = instance_with (cluster_with K.horizon i.cluster) i.nodes (only_processes i K) (only_links i K) (only_messages i K)

-- a plan without what it says of other messages
abbrev pub plan_with : Instance → Constraints → Plan → Plan
plan_with i K plan = record plan {
  rounds = map (round_of plan) (kept_messages i K);
  channels = map (channel_of plan) (kept_messages i K);
}
