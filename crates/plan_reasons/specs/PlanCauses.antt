-- Why a process of a plan starts when it does, and why a message is sent in its round. Own profile.
use Rattle.std.specs.Prelude.{◌≡◌, ◌≢◌, ℕ, ◌<◌, Option, None, Some, length}
use Rattle.ttp_model.specs.declared.plan.Plan.{Plan}
use Rattle.ttp_model.specs.Graph.{Receives}
use Rattle.ttp_model.specs.Instance.{Instance, link_at, node_of, process_at}
use Rattle.ttp_model.specs.Lists.{EachBelow}
use Rattle.ttp_model.specs.Plans.{end_of, round_of, start_of}
use Rattle.plan_facts.specs.Earliest.{CanBeSentFrom, IsFirstRoom, IsFirstStart}
use Rattle.plan_facts.specs.Messages.{IsFirstInTime, arrival}
use Rattle.plan_reasons.specs.declared.plan_links.RoundCause.{RoundCause}
use Rattle.plan_reasons.specs.declared.plan_links.RoundCause.TheVariants.{CouldGo, First, Full}
use Rattle.plan_reasons.specs.declared.runs.StartCause.{StartCause}
use Rattle.plan_reasons.specs.declared.runs.StartCause.TheVariants.{Arrival, Behind, CouldStart, Link, Release}

-- k is the first index below n at which P holds
pub record IsFirst (n : ℕ) (P : ℕ → Type 0) (k : ℕ) : Type 0 where
  pub within : k < n
  pub holds : P k
  pub none_before : EachBelow k (λ j. ¬ P j)

-- the answer of a search for it: none means that P holds at none
abbrev pub Finds : ℕ → (ℕ → Type 0) → Option ℕ → Type 0
Finds n P None = EachBelow n (λ k. ¬ P k)
Finds n P (Some k) = IsFirst n P k

-- link l leads to process p from one that ends when p starts
abbrev pub LinkHolds : Instance → Plan → ℕ → ℕ → Type 0
LinkHolds i plan p l = ((link_at i l).after ≡ p) × (end_of i plan (link_at i l).before ≡ start_of plan p)

-- process q of the same node ends when p starts
abbrev pub ProcessHolds : Instance → Plan → ℕ → ℕ → Type 0
ProcessHolds i plan p q = (node_of i q ≡ node_of i p) × (end_of i plan q ≡ start_of plan p)

-- message m to p is there when p starts
abbrev pub MessageHolds : Instance → Plan → ℕ → ℕ → Type 0
MessageHolds i plan p m = Receives i p m × (arrival i plan m ≡ start_of plan p)

-- What holds process p back, at its start: its release, else a link, else a process of its node, else a message. A link joins
-- processes of one node, so it is told before them. Where nothing does, p could start at the tick that is told.
abbrev pub IsStartCause : Instance → Plan → ℕ → StartCause → Type 0
IsStartCause i plan p Release = (process_at i p).release ≡ start_of plan p
IsStartCause i plan p (Link l) = ((process_at i p).release ≢ start_of plan p) × IsFirst (length i.links) (LinkHolds i plan p) l
IsStartCause i plan p (Behind q) =
    ((process_at i p).release ≢ start_of plan p) × Finds (length i.links) (LinkHolds i plan p) None × IsFirst (length i.processes) (ProcessHolds i plan p) q
IsStartCause i plan p (Arrival m) =
    ((process_at i p).release ≢ start_of plan p) × Finds (length i.processes) (ProcessHolds i plan p) None × IsFirst (length i.messages) (MessageHolds i plan p) m
IsStartCause i plan p (CouldStart time) = (time < start_of plan p) × IsFirstStart i plan p time

-- What holds message m back, in its round: it is the first in time, or those from the first in time on are too full for it. Where
-- nothing does, m could be sent in the round that is told.
abbrev pub IsRoundCause : Instance → Plan → ℕ → RoundCause → Type 0
IsRoundCause i plan m First = IsFirstInTime i plan m (round_of plan m)
IsRoundCause i plan m (Full first) = IsFirstInTime i plan m first × (first < round_of plan m) × CanBeSentFrom i plan m (round_of plan m)
IsRoundCause i plan m (CouldGo r) = (r < round_of plan m) × IsFirstRoom i plan m r
