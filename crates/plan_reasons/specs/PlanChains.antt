-- The chain of a plan: from the last process to end back to a release, link by link. Own profile.
use Rattle.std.specs.Prelude.{◌≡◌, ℕ, ◌+◌, ◌<◌, List, [], ◌∷◌, Option, None, Some, length}
use Rattle.ttp_model.specs.declared.plan.Plan.{Plan}
use Rattle.ttp_model.specs.Instance.{Instance, link_at, message_at, process_at}
use Rattle.ttp_model.specs.Plans.{end_of, round_of, sent_from, sent_until, start_of}
use Rattle.ttp_model.specs.Delays.{delay}
use Rattle.plan_facts.specs.Earliest.{CanBeSentFrom}
use Rattle.plan_reasons.specs.declared.plan_links.ChainLink.{ChainLink}
use Rattle.plan_reasons.specs.declared.plan_links.ChainLink.TheVariants.{Run, Sending}
use Rattle.plan_reasons.specs.declared.plan_links.RoundCause.{RoundCause}
use Rattle.plan_reasons.specs.declared.plan_links.RoundCause.TheVariants.{CouldGo, First, Full}
use Rattle.plan_reasons.specs.declared.runs.StartCause.{StartCause}
use Rattle.plan_reasons.specs.declared.runs.StartCause.TheVariants.{Arrival, Behind, CouldStart, Link, Release}
use Rattle.plan_reasons.specs.declared.plan_links.Subject.{Subject}
use Rattle.plan_reasons.specs.declared.plan_links.Subject.TheVariants.{Message, Process}
use Rattle.plan_reasons.specs.PlanCauses.{IsFirst, IsRoundCause, IsStartCause}

-- process p runs from this tick to that one, for this cause
pub record IsRun (i : Instance) (plan : Plan) (p from until : ℕ) (cause : StartCause) : Type 0 where
  pub is_there : p < length i.processes
  pub starts : from ≡ start_of plan p
  pub ends : until ≡ end_of i plan p
  pub for_cause : IsStartCause i plan p cause

-- message m is in its slot from this tick to that one, for this cause
pub record IsSending (i : Instance) (plan : Plan) (m from until : ℕ) (cause : RoundCause) : Type 0 where
  pub is_there : m < length i.messages
  pub starts : from ≡ sent_from i plan m
  pub ends : until ≡ sent_until i plan m
  pub for_cause : IsRoundCause i plan m cause

-- a link tells what the plan says of its process or message
abbrev pub IsLinkOf : Instance → Plan → ChainLink → Type 0
IsLinkOf i plan (Run p from until cause) = IsRun i plan p from until cause
IsLinkOf i plan (Sending m from until cause) = IsSending i plan m from until cause

-- the process or message of a link
abbrev pub subject_of : ChainLink → Subject
subject_of (Run p from until cause) = Process p
subject_of (Sending m from until cause) = Message m

-- which holds a process back, where something does
abbrev pub held_at_start : Instance → StartCause → Option Subject
held_at_start i Release = None
held_at_start i (Link l) = Some (Process (link_at i l).before)
held_at_start i (Behind q) = Some (Process q)
held_at_start i (Arrival m) = Some (Message m)
held_at_start i (CouldStart time) = None

-- which holds a message back: its sender, unless it could be sent earlier
abbrev pub held_in_round : Instance → ℕ → RoundCause → Option Subject
held_in_round i m First = Some (Process (message_at i m).sender)
held_in_round i m (Full first) = Some (Process (message_at i m).sender)
held_in_round i m (CouldGo r) = None

-- which holds a link's process or message back
abbrev pub held_by : Instance → ChainLink → Option Subject
held_by i (Run p from until cause) = held_at_start i cause
held_by i (Sending m from until cause) = held_in_round i m cause

-- the links of a list lead back, from this process or message on, to one that nothing holds back
abbrev pub LeadsBack : Instance → Plan → Option Subject → List ChainLink → Type 0
LeadsBack i plan next [] = next ≡ None
LeadsBack i plan next (link ∷ links) = (next ≡ Some (subject_of link)) × IsLinkOf i plan link × LeadsBack i plan (held_by i link) links

-- p is the first of the processes that end last
abbrev pub IsLastToEnd : Instance → Plan → ℕ → Type 0
IsLastToEnd i plan p = IsFirst (length i.processes) (λ q. end_of i plan q ≡ delay i plan) p

-- The chain of a plan: from the last process to end back, link by link.
pub record IsChain (i : Instance) (plan : Plan) (links : List ChainLink) : Type 0 where
  pub last : ℕ
  pub ends_last : IsLastToEnd i plan last
  pub leads_back : LeadsBack i plan (Some (Process last)) links

-- when a link ends
abbrev pub until_of : ChainLink → ℕ
until_of (Run p from until cause) = until
until_of (Sending m from until cause) = until

-- One link and the one that holds it back: the second ends when the first begins, or, where it is a message, is there by then; or
-- the second is the sender of the first, whose round is the least that begins in time and isn't too full on its channels.
abbrev pub AreJoined : Instance → Plan → ChainLink → ChainLink → Type 0
AreJoined i plan (Run p from until cause) (Run q from_q until_q cause_q) = until_q ≡ from
AreJoined i plan (Run p from until cause) (Sending m from_m until_m cause_m) = until_m + i.cluster.copy_in ≡ from
AreJoined i plan (Sending m from until cause) (Run q from_q until_q cause_q) = ((message_at i m).sender ≡ q) × CanBeSentFrom i plan m (round_of plan m)
AreJoined i plan (Sending m from until cause) (Sending k from_k until_k cause_k) = ⊥

-- a link is a process that starts at its release
abbrev pub StartsAtRelease : Instance → ChainLink → Type 0
StartsAtRelease i (Run p from until cause) = (process_at i p).release ≡ from
StartsAtRelease i (Sending m from until cause) = ⊥
