-- How early a process can start and a message be sent, where nothing else of the plan changes. Own profile.
use Rattle.std.specs.Prelude.{◌≡◌, ℕ, ◌+◌, ◌≤◌, IsTrue, slice_index}
use Rattle.ttp_model.specs.declared.plan.Plan.{Plan}
use Rattle.ttp_model.specs.Lists.{EachBelow}
use Rattle.ttp_model.specs.Instance.{Instance, message_at, node_of, source_of}
use Rattle.ttp_model.specs.Plans.{EndsBefore, channel_of, is_on, load_on}
use Rattle.tt_moves.specs.Earlier.{CanBeSent, CanStart}

-- process q of the same node ends before p starts, or just then; so does each that a link leads from to p
abbrev pub GoesBefore : Instance → Plan → ℕ → ℕ → Type 0
GoesBefore i plan p q = (node_of i q ≡ node_of i p) × EndsBefore i plan q p

-- this is the first tick by which all is over that process p waits for
pub record IsFirstStart (i : Instance) (plan : Plan) (p time : ℕ) : Type 0 where
  pub can : CanStart i plan p time
  pub least : (other : ℕ) → CanStart i plan p other → time ≤ other

-- where message m is on channel c, the frame of a round has room for it there beside what is in it
abbrev pub HasRoomOn : Instance → Plan → ℕ → ℕ → ℕ → Type 0
HasRoomOn i plan m r c = IsTrue (is_on c (channel_of plan m)) → load_on i plan (source_of i m) r c + (message_at i m).bytes ≤ slice_index plan.caps (source_of i m)

-- so it is on each channel of the cluster
abbrev pub HasRoom : Instance → Plan → ℕ → ℕ → Type 0
HasRoom i plan m r = EachBelow i.cluster.channels (HasRoomOn i plan m r)

-- in each round before this one the slot of message m begins too early, or the frame is too full for it on its channels
abbrev pub CanBeSentFrom : Instance → Plan → ℕ → ℕ → Type 0
CanBeSentFrom i plan m r = (other : ℕ) → CanBeSent i plan m other → r ≤ other

-- this is the first round in which message m is ready and has room
pub record IsFirstRoom (i : Instance) (plan : Plan) (m r : ℕ) : Type 0 where
  pub can : CanBeSent i plan m r
  pub least : CanBeSentFrom i plan m r
