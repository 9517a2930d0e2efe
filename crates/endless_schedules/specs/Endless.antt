-- What it means that a plan of a cluster of several rates repeats rightly for ever, told by cycles and jobs in absolute ticks.
use Rattle.std.specs.Prelude.{◌≡◌, ◌≢◌, ◌⊎◌, ℕ, ◌+◌, ◌*◌, ◌<◌, ◌≤◌, Contains, length, slice_index}
use Rattle.ttp_model.specs.declared.plan.Plan.{Plan}
use Rattle.ttp_model.specs.Plans.{Capacities, Channels, Keeps, Lengths, Order}
use Rattle.rates_model.specs.Rates.{Rates, chain_at, link_at, message_at, node_of, period_of, process_at}
use Rattle.rates_model.specs.Cycles.{cycle, horizon_of, jobs_of, rounds_in}
use Rattle.rates_model.specs.Reads.{Reads, job_from_all}
use Rattle.rates_model.specs.Ages.{first_of, last_of, release_from_all}
use Rattle.endless_schedules.specs.Stores.{storing_nodes}
use Rattle.endless_schedules.specs.Unrolled.{unrolled}
use Rattle.endless_schedules.specs.Runs.{IsRun, Job, Run, Store, ends_at, home_of, starts_at}
use Rattle.endless_schedules.specs.Sent.{frame_bytes, opens_at, sender_jobs, sent_from, sent_round, sent_until}
use Rattle.endless_schedules.specs.Carried.{Carries}

-- its lists are as long as they have to be, and order, capacities and channels are such as they may be
pub record IsFormed (rho : Rates) (plan : Plan) : Type 0 where
  pub lengths : Keeps (unrolled rho) plan Lengths
  pub order : Keeps (unrolled rho) plan Order
  pub capacities : Keeps (unrolled rho) plan Capacities
  pub channels : Keeps (unrolled rho) plan Channels

-- when the period of job k of cycle c begins
abbrev pub begins_at : Rates → ℕ → ℕ → ℕ → ℕ
begins_at rho c p k = c * cycle rho + k * period_of rho p

-- job k of process p of cycle c runs from its release on
abbrev pub AreReleased : Rates → Plan → Type 0
AreReleased rho plan =
    (c p k : ℕ) → IsRun rho (Job p k) → begins_at rho c p k + (process_at rho p).release ≤ starts_at rho plan c (Job p k)

-- and by its deadline
abbrev pub AreInTime : Rates → Plan → Type 0
AreInTime rho plan =
    (c p k : ℕ) → IsRun rho (Job p k) → ends_at rho plan c (Job p k) ≤ begins_at rho c p k + (process_at rho p).deadline

-- jobs and stores run within the whole rounds of their cycle
abbrev pub AreWithinRounds : Rates → Plan → Type 0
AreWithinRounds rho plan = (c : ℕ) (run : Run) → IsRun rho run → ends_at rho plan c run ≤ c * cycle rho + horizon_of rho

-- of two on one node, of whatever cycles, one ends before the other starts
abbrev pub AreApartForEver : Rates → Plan → Type 0
AreApartForEver rho plan =
    (c d : ℕ) (one other : Run) → IsRun rho one → IsRun rho other → home_of rho one ≡ home_of rho other → ¬ ((c ≡ d) × (one ≡ other))
    → (ends_at rho plan c one ≤ starts_at rho plan d other) ⊎ (ends_at rho plan d other ≤ starts_at rho plan c one)

-- job j of q in cycle c reads, with a delay or without, what job k of p makes in cycle d
pub record ReadsIn (rho : Rates) (p q delay c j d k : ℕ) : Type 0 where
  pub reader : j < jobs_of rho q
  pub read : k < jobs_of rho p
  pub reads : Reads rho p q delay (job_from_all rho q c j) (job_from_all rho p d k)

-- each link is kept, from the job that is read to its reader
abbrev pub KeepAllLinks : Rates → Plan → Type 0
KeepAllLinks rho plan =
    (l c j d k : ℕ) → l < length rho.links → ReadsIn rho (link_at rho l).before (link_at rho l).after (link_at rho l).delay c j d k
    → ends_at rho plan d (Job (link_at rho l).before k) ≤ starts_at rho plan c (Job (link_at rho l).after j)

-- job j of q, a receiver of message m, in cycle c reads what job k of its sender makes in cycle d
pub record Receives (rho : Rates) (m q c j d k : ℕ) : Type 0 where
  pub there : m < length rho.messages
  pub receiver : Contains (message_at rho m).receivers q
  pub read : ReadsIn rho (message_at rho m).sender q (message_at rho m).delay c j d k

-- what is read is copied out before its slot begins
abbrev pub AreAllReady : Rates → Plan → Type 0
AreAllReady rho plan =
    (m q c j d k : ℕ) → Receives rho m q c j d k
    → ends_at rho plan d (Job (message_at rho m).sender k) + rho.cluster.copy_out ≤ sent_from rho plan d m k

-- and copied in before its reader starts, where that is in the same cycle
abbrev pub HaveAllArrived : Rates → Plan → Type 0
HaveAllArrived rho plan =
    (m q c j k : ℕ) → Receives rho m q c j c k → sent_until rho plan c m k + rho.cluster.copy_in ≤ starts_at rho plan c (Job q j)

-- or before it is stored on its reader's node, in its own cycle, where the reader is in a later one
abbrev pub AreAllStored : Rates → Plan → Type 0
AreAllStored rho plan =
    (m q c j d k place : ℕ) → Receives rho m q c j d k → c ≢ d → IsRun rho (Store m place) → home_of rho (Store m place) ≡ node_of rho q
    → sent_until rho plan d m k + rho.cluster.copy_in ≤ starts_at rho plan d (Store m place)

-- in a whole round of its cycle
abbrev pub AreSentWithinRounds : Rates → Plan → Type 0
AreSentWithinRounds rho plan = (m q c j d k : ℕ) → Receives rho m q c j d k → sent_round rho plan m k < rounds_in rho

-- no frame of any cycle is overfull on any channel, however many cycles are counted
abbrev pub HoldAllFrames : Rates → Plan → Type 0
HoldAllFrames rho plan =
    (c n r channel cycles : ℕ) → n < length rho.nodes → r < rounds_in rho → channel < rho.cluster.channels
    → frame_bytes rho plan n (opens_at rho plan c n r) channel cycles ≤ slice_index plan.caps n

-- what a chain carries is no older than it may be, but where it reaches back to a cycle before the first
abbrev pub AreYoung : Rates → Plan → Type 0
AreYoung rho plan =
    (x c j k : ℕ) → x < length rho.chains → j < jobs_of rho (last_of (chain_at rho x))
    → Carries rho (chain_at rho x).through (job_from_all rho (last_of (chain_at rho x)) c j) k
    → ends_at rho plan c (Job (last_of (chain_at rho x)) j) ≤ (chain_at rho x).age + release_from_all rho (first_of (chain_at rho x)) k

-- A plan repeats rightly for ever.
pub record IsEndless (rho : Rates) (plan : Plan) : Type 0 where
  pub released : AreReleased rho plan
  pub in_time : AreInTime rho plan
  pub within : AreWithinRounds rho plan
  pub apart : AreApartForEver rho plan
  pub links : KeepAllLinks rho plan
  pub ready : AreAllReady rho plan
  pub arrived : HaveAllArrived rho plan
  pub stored : AreAllStored rho plan
  pub sent : AreSentWithinRounds rho plan
  pub frames : HoldAllFrames rho plan
  pub young : AreYoung rho plan

-- one of the stores of message m is on the node of process q
abbrev pub IsStoredFor : Rates → ℕ → ℕ → Type 0
IsStoredFor rho m q = (place : ℕ) × IsRun rho (Store m place) × (home_of rho (Store m place) ≡ node_of rho q)
