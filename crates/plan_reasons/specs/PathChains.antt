-- The chain that makes the path bound: from its last process back to a release, process by process. Own profile.
use Rattle.std.specs.Prelude.{◌≡◌, ◌≢◌, ℕ, ◌+◌, ◌<◌, Contains, List, [], ◌∷◌, Option, None, Some, length, slice_index}
use Rattle.ttp_model.specs.Instance.{Instance, link_at, message_at, process_at, source_of}
use Rattle.ttp_model.specs.Chains.{IsPathBound, least_transfer}
use Rattle.plan_facts.specs.Longest.{AreLongest}
use Rattle.plan_reasons.specs.PlanCauses.{Finds, IsFirst}
use Rattle.plan_reasons.specs.declared.runs.StartCause.{StartCause}
use Rattle.plan_reasons.specs.declared.runs.StartCause.TheVariants.{Arrival, Behind, CouldStart, Link, Release}
use Rattle.plan_reasons.specs.declared.path_parts.ChainPart.{ChainPart}

-- link l leads to process p from one whose longest chain ends at this tick
abbrev pub LinkHolds : Instance → List ℕ → ℕ → ℕ → ℕ → Type 0
LinkHolds i ends p from l = ((link_at i l).after ≡ p) × (slice_index ends (link_at i l).before ≡ from)

-- message m to p is there at this tick, where its sender ends as its longest chain does and its transfer takes the least time
abbrev pub MessageHolds : Instance → List ℕ → ℕ → ℕ → ℕ → Type 0
MessageHolds i ends p from m =
    Contains (message_at i m).receivers p × (slice_index ends (message_at i m).sender + least_transfer i (source_of i m) ≡ from)

-- what process p waits for that begins at this tick: its release, else the first link, else the first message
abbrev pub IsCause : Instance → List ℕ → ℕ → ℕ → StartCause → Type 0
IsCause i ends p from Release = (process_at i p).release ≡ from
IsCause i ends p from (Link l) = ((process_at i p).release ≢ from) × IsFirst (length i.links) (LinkHolds i ends p from) l
IsCause i ends p from (Arrival m) =
    ((process_at i p).release ≢ from) × Finds (length i.links) (LinkHolds i ends p from) None × IsFirst (length i.messages) (MessageHolds i ends p from) m
IsCause i ends p from (Behind q) = ⊥
IsCause i ends p from (CouldStart time) = ⊥

-- a part of a chain: a process that ends when its longest chain does, and what it waits for
pub record IsPart (i : Instance) (ends : List ℕ) (part : ChainPart) : Type 0 where
  pub is_there : part.process < length i.processes
  pub ends_so : part.until ≡ slice_index ends part.process
  pub runs : part.from + (process_at i part.process).wcet ≡ part.until
  pub for_cause : IsCause i ends part.process part.from part.cause

-- the process that it waits for, where it waits for one
abbrev pub held_by : Instance → StartCause → Option ℕ
held_by i Release = None
held_by i (Link l) = Some (link_at i l).before
held_by i (Arrival m) = Some (message_at i m).sender
held_by i (Behind q) = None
held_by i (CouldStart time) = None

-- the parts of a list lead back, from this process on, to one that waits for its release
abbrev pub LeadsBack : Instance → List ℕ → Option ℕ → List ChainPart → Type 0
LeadsBack i ends next [] = next ≡ None
LeadsBack i ends next (part ∷ parts) = (next ≡ Some part.process) × IsPart i ends part × LeadsBack i ends (held_by i part.cause) parts

-- p is the first of the processes whose longest chains add up to the path bound
abbrev pub EndsLast : Instance → List ℕ → ℕ → Type 0
EndsLast i ends p = IsFirst (length i.processes) (λ q. IsPathBound i (slice_index ends q)) p

-- The chain that makes the path bound: from the process that ends last back, by when the longest chain to each process ends.
pub record IsChain (i : Instance) (parts : List ChainPart) : Type 0 where
  pub ends : List ℕ
  pub longest : AreLongest i ends
  pub last : ℕ
  pub ends_last : EndsLast i ends last
  pub leads_back : LeadsBack i ends (Some last) parts

-- The second of two parts is what the first waits for, and ends when that begins; or, where the first waits for a message of it, as
-- much earlier as a transfer takes at least.
abbrev pub AreJoinedBy : Instance → StartCause → ChainPart → ChainPart → Type 0
AreJoinedBy i Release part before = ⊥
AreJoinedBy i (Link l) part before = ((link_at i l).after ≡ part.process) × ((link_at i l).before ≡ before.process) × (before.until ≡ part.from)
AreJoinedBy i (Arrival m) part before =
    Contains (message_at i m).receivers part.process × ((message_at i m).sender ≡ before.process)
    × (before.until + least_transfer i (source_of i m) ≡ part.from)
AreJoinedBy i (Behind q) part before = ⊥
AreJoinedBy i (CouldStart time) part before = ⊥

abbrev pub AreJoined : Instance → ChainPart → ChainPart → Type 0
AreJoined i part before = AreJoinedBy i part.cause part before

-- a part begins at its process's release
abbrev pub BeginsAtRelease : Instance → ChainPart → Type 0
BeginsAtRelease i part = (part.cause ≡ Release) × (part.from ≡ (process_at i part.process).release)
