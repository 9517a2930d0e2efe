-- The five moves: small changes that lower a plan's weight and never raise its delay, and the plans that none of
-- them keeps valid (our own profile).
use Rattle.std.specs.Prelude.{◌≡◌, ◌==◌, ◌&&◌, not, if◌then◌else◌, Bool, IsTrue, ℕ, ◌+◌, ◌-◌, ◌*◌, ◌<◌, ◌⊎◌, length, map, slice_set, swap, sum}
use Rattle.std.specs.List.{position_or_len, range_with_len}
use Rattle.ttp_model.specs.declared.plan.Plan.{Plan}
use Rattle.ttp_model.specs.Limits.{both_channels}
use Rattle.ttp_model.specs.Instance.{Instance, source_of}
use Rattle.ttp_model.specs.Totals.{total}
use Rattle.ttp_model.specs.Plans.{IsValid, start_of, round_of, channel_of, is_in_frame}
use Rattle.ttp_model.specs.Twins.{AreTwins, AreSilentTwins}

-- where a node stands in the order: the order's length where it doesn't
abbrev pub position_of : Plan → ℕ → ℕ
position_of plan n = position_or_len (λ m. m == n) plan.order

-- the plan with another start of process p
abbrev pub started : Plan → ℕ → ℕ → Plan
started plan p start = record plan { starts = slice_set plan.starts p start }

-- with another round of message m
abbrev pub sent : Plan → ℕ → ℕ → Plan
sent plan m round = record plan { rounds = slice_set plan.rounds m round }

-- with the starts of two processes exchanged
abbrev pub swapped : Plan → ℕ → ℕ → Plan
swapped plan p q = record plan { starts = swap plan.starts p q }

-- with the positions and the capacities of two nodes exchanged
abbrev pub exchanged : Plan → ℕ → ℕ → Plan
exchanged plan u v = record plan { order = swap plan.order (position_of plan u) (position_of plan v); caps = swap plan.caps u v }

-- message k is in the frame of node n in round r, on one channel alone
abbrev pub is_alone_in : Instance → Plan → ℕ → ℕ → ℕ → Bool
is_alone_in i plan n r k = is_in_frame i plan n r k && not (channel_of plan k == both_channels)

-- the first message of a frame that is on one channel alone: the number of messages where none is
abbrev pub first_alone : Instance → Plan → ℕ → ℕ → ℕ
first_alone i plan n r = position_or_len (is_alone_in i plan n r) (range_with_len 0 (length i.messages))

-- message m is on channel 1, and the first of its frame that is on one channel alone: the frame is turned
abbrev pub leads_turned : Instance → Plan → ℕ → Bool
leads_turned i plan m = channel_of plan m == 1 && first_alone i plan (source_of i m) (round_of plan m) == m

-- the other one of channels 0 and 1; what stands for both stays
abbrev pub other_channel : ℕ → ℕ
other_channel c = if c == 0 then 1 else (if c == 1 then 0 else c)

-- the channel of message k once those of the frame of message m are exchanged
abbrev pub turned_channel : Instance → Plan → ℕ → ℕ → ℕ
turned_channel i plan m k = if is_in_frame i plan (source_of i m) (round_of plan m) k then other_channel (channel_of plan k) else channel_of plan k

-- with channels 0 and 1 exchanged in the frame of message m
abbrev pub turned : Instance → Plan → ℕ → Plan
turned i plan m = record plan { channels = map (turned_channel i plan m) (range_with_len 0 (length i.messages)) }

-- one process one tick earlier
pub record StartsEarlier (i : Instance) (plan moved : Plan) : Type 0 where
  pub process : ℕ
  pub is_there : process < length i.processes
  pub above : 0 < start_of plan process
  pub moved_is : moved ≡ started plan process (start_of plan process - 1)

-- one message in an earlier round
pub record SendsEarlier (i : Instance) (plan moved : Plan) : Type 0 where
  pub message : ℕ
  pub round : ℕ
  pub is_there : message < length i.messages
  pub earlier : round < round_of plan message
  pub moved_is : moved ≡ sent plan message round

-- twins exchange their starts, so that the first starts first
pub record SwapsTwins (i : Instance) (plan moved : Plan) : Type 0 where
  pub first : ℕ
  pub second : ℕ
  pub twins : AreTwins i first second
  pub in_order : first < second
  pub later : start_of plan second < start_of plan first
  pub moved_is : moved ≡ swapped plan first second

-- silent twins exchange their positions and capacities, so that the first stands first
pub record SwapsSilentTwins (i : Instance) (plan moved : Plan) : Type 0 where
  pub first : ℕ
  pub second : ℕ
  pub twins : AreSilentTwins i first second
  pub in_order : first < second
  pub later : position_of plan second < position_of plan first
  pub moved_is : moved ≡ exchanged plan first second

-- the channels of a turned frame are exchanged
pub record TurnsFrame (i : Instance) (plan moved : Plan) : Type 0 where
  pub message : ℕ
  pub is_there : message < length i.messages
  pub leads : IsTrue (leads_turned i plan message)
  pub moved_is : moved ≡ turned i plan message

-- one of the four that leave messages on their channels
abbrev pub MoveOnChannels : Instance → Plan → Plan → Type 0
MoveOnChannels i plan moved = (StartsEarlier i plan moved ⊎ SendsEarlier i plan moved) ⊎ (SwapsTwins i plan moved ⊎ SwapsSilentTwins i plan moved)

-- one of the five
abbrev pub Move : Instance → Plan → Plan → Type 0
Move i plan moved = MoveOnChannels i plan moved ⊎ TurnsFrame i plan moved

-- Moves lead from one plan to another: none, to the plan itself; or one, to a valid plan, and from there on.
pub data MovesLead (i : Instance) : Plan → Plan → Type 0 where
  none : (plan : Plan) → MovesLead i plan plan
  one_more : (plan moved last : Plan) → Move i plan moved → IsValid i moved → MovesLead i moved last → MovesLead i plan last

-- what is compared first of two plans: all starts and rounds together
abbrev pub time_weight : Plan → ℕ
time_weight plan = sum plan.starts + sum plan.rounds

-- how early processes of a greater index start
abbrev pub start_weight : Instance → Plan → ℕ
start_weight i plan = total (λ p. p * (i.cluster.horizon - start_of plan p)) (length i.processes)

-- how far in front nodes of a greater index stand
abbrev pub position_weight : Instance → Plan → ℕ
position_weight i plan = total (λ n. n * (length i.nodes - position_of plan n)) (length i.nodes)

-- how many frames are turned: each has one message that leads it
abbrev pub turned_frames : Instance → Plan → ℕ
turned_frames i plan = total (λ m. if leads_turned i plan m then 1 else 0) (length i.messages)

-- The weight of a plan: all starts and rounds together, then where twins stand, then how many frames are turned.
pub record Weight : Type 0 where
  pub times : ℕ
  pub twins : ℕ
  pub frames : ℕ

abbrev pub weight : Instance → Plan → Weight
weight i plan = record { times = time_weight plan; twins = start_weight i plan + position_weight i plan; frames = turned_frames i plan }

-- one weight is below another: its first part that differs is
abbrev pub IsLighter : Weight → Weight → Type 0
IsLighter a b = (a.times < b.times) ⊎ ((a.times ≡ b.times) × ((a.twins < b.twins) ⊎ ((a.twins ≡ b.twins) × (a.frames < b.frames))))

-- a plan is settled when it is valid and no move gives a valid plan
pub record IsSettled (i : Instance) (plan : Plan) : Type 0 where
  pub valid : IsValid i plan
  pub rests : (moved : Plan) → Move i plan moved → ¬ IsValid i moved
