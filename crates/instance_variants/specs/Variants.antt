-- Instances that differ from a given one in times, ends or parts: what is asked of them and of plans. Own profile.
use Rattle.std.specs.Prelude.{◌≡◌, ℕ, ◌<◌, ◌≤◌, IsTrue, List, length, slice_index_or}
use Rattle.ttp_model.specs.declared.parts.Process.{Process}
use Rattle.ttp_model.specs.declared.parts.Link.{Link}
use Rattle.ttp_model.specs.declared.parts.Message.{Message}
use Rattle.ttp_model.specs.declared.plan.Plan.{Plan}
use Rattle.ttp_model.specs.Limits.{most_ticks}
use Rattle.ttp_model.specs.Lists.{EachBelow}
use Rattle.ttp_model.specs.Instance.{Instance, instance_with, no_process, process_at, link_at, message_at}
use Rattle.ttp_model.specs.Rules.{KeepsRule, Deadlines}
use Rattle.ttp_model.specs.Plans.{Keeps, Releases, Ends, Overlaps, Links, Readiness, round_of, channel_of}

-- another horizon, other processes, and links and messages with the places from which they are
pub record Variant : Type 0 where
  pub horizon : ℕ
  pub processes : List Process
  pub links : List Link
  pub messages : List Message
  pub link_place : ℕ → ℕ
  pub message_place : ℕ → ℕ

-- an instance with these in place of its own
abbrev pub varied : Instance → Variant → Instance
varied i v = instance_with (record i.cluster { horizon = v.horizon }) i.nodes v.processes v.links v.messages

-- other times alone: all links and messages are there
abbrev pub timed : Instance → ℕ → List Process → Variant
timed i horizon processes = record {
  horizon = horizon;
  processes = processes;
  links = i.links;
  messages = i.messages;
  link_place = λ l. l;
  message_place = λ m. m;
}

abbrev pub with_times : Instance → ℕ → List Process → Instance
with_times i horizon processes = varied i (timed i horizon processes)

-- the same times too
abbrev pub own : Instance → Variant
own i = timed i i.cluster.horizon i.processes

-- processes are as many, and each has the name and the node that it had
pub record DifferInTimes (old new : List Process) : Type 0 where
  pub all : length new ≡ length old
  pub name : (p : ℕ) → p < length old → (slice_index_or new p no_process).name ≡ (slice_index_or old p no_process).name
  pub node : (p : ℕ) → p < length old → (slice_index_or new p no_process).node ≡ (slice_index_or old p no_process).node

-- none takes longer than it did
abbrev pub IsNoneLonger : List Process → List Process → Type 0
IsNoneLonger old new = (p : ℕ) → p < length old → (slice_index_or new p no_process).wcet ≤ (slice_index_or old p no_process).wcet

-- a message is as it was, but that it needn't be on both channels
pub record IsMessageAsBefore (old new : Message) : Type 0 where
  pub name : new.name ≡ old.name
  pub sender : new.sender ≡ old.sender
  pub receivers : new.receivers ≡ old.receivers
  pub bytes : new.bytes ≡ old.bytes
  pub both : IsTrue new.both → IsTrue old.both

-- processes differ in times, and links and messages are some of the instance's, messages in their order
pub record IsVariant (i : Instance) (v : Variant) : Type 0 where
  pub processes : DifferInTimes i.processes v.processes
  pub few_links : length v.links ≤ length i.links
  pub link_there : (l : ℕ) → l < length v.links → v.link_place l < length i.links
  pub link : (l : ℕ) → l < length v.links → link_at (varied i v) l ≡ link_at i (v.link_place l)
  pub few_messages : length v.messages ≤ length i.messages
  pub message_there : (m : ℕ) → m < length v.messages → v.message_place m < length i.messages
  pub message : (m : ℕ) → m < length v.messages → IsMessageAsBefore (message_at i (v.message_place m)) (message_at (varied i v) m)
  pub rising : (m l : ℕ) → m < l → l < length v.messages → v.message_place m < v.message_place l

-- each process fits into its window, from its release to its deadline, and all times can be said
pub record HasWindows (i : Instance) : Type 0 where
  pub horizon_least : 1 ≤ i.cluster.horizon
  pub horizon : i.cluster.horizon ≤ most_ticks
  pub wcet_least : EachBelow (length i.processes) (λ p. 1 ≤ (process_at i p).wcet)
  pub windows : KeepsRule i Deadlines
  pub deadlines : EachBelow (length i.processes) (λ p. (process_at i p).deadline ≤ most_ticks)

-- a plan with other rounds and channels
abbrev pub sent_otherwise : Plan → List ℕ → List ℕ → Plan
sent_otherwise plan rounds channels = record plan { rounds = rounds; channels = channels }

-- they are those of the messages that are there
pub record AreSentAlike (v : Variant) (plan : Plan) (rounds channels : List ℕ) : Type 0 where
  pub rounds_many : length rounds ≡ length v.messages
  pub channels_many : length channels ≡ length v.messages
  pub round : (m : ℕ) → m < length v.messages → slice_index_or rounds m 0 ≡ round_of plan (v.message_place m)
  pub channel : (m : ℕ) → m < length v.messages → slice_index_or channels m 0 ≡ channel_of plan (v.message_place m)

-- a plan keeps the rules that speak of when processes start and end
pub record KeepsTimes (i : Instance) (plan : Plan) : Type 0 where
  pub released : Keeps i plan Releases
  pub in_time : Keeps i plan Ends
  pub apart : Keeps i plan Overlaps
  pub links : Keeps i plan Links
  pub ready : Keeps i plan Readiness
