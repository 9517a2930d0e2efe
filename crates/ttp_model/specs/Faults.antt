-- Which rule a plan's fault names: the first that it breaks, at the first place at which it breaks it.
use Rattle.std.specs.Prelude.{◌≡◌, ℕ, ◌<◌, length, slice_index}
use Rattle.ttp_model.specs.declared.plan.Plan.{Plan}
use Rattle.ttp_model.specs.declared.fault.PlanPart.{PlanPart}
use Rattle.ttp_model.specs.declared.fault.PlanPart.TheVariants as part
use Rattle.ttp_model.specs.declared.fault.PlanFault.{PlanFault}
use Rattle.ttp_model.specs.declared.fault.PlanFault.TheVariants.{WrongLength, WrongOrder, WrongCapacity, TooEarly, TooLate, Overlap, BrokenLink, NotReady, NotArrived, Overfull, OverfullOn, WrongChannel}
use Rattle.ttp_model.specs.Lists.{EachBelow, IsFirstFailure}
use Rattle.ttp_model.specs.Instance.{Instance, message_at, source_of}
use Rattle.ttp_model.specs.Plans.{Clause, Lengths, Order, Capacities, Releases, Ends, Overlaps, Links, Readiness, Arrivals, Frames, Channels, Keeps, HasOrderLength, HasCapacitiesLength, HasStartsLength, HasRoundsLength, HasChannelsLength, IsNewNode, HasOwnCapacity, IsReleased, EndsInTime, AreApart, IsApartFromLater, KeepsLink, IsReady, HasArrivedAt, HasArrivedEverywhere, FitsOn, FitsFrame, HasOwnChannel, round_of}

-- the order of the rules, as they are printed
abbrev pub clause_number : Clause → ℕ
clause_number Lengths = 1
clause_number Order = 2
clause_number Capacities = 3
clause_number Releases = 4
clause_number Ends = 5
clause_number Overlaps = 6
clause_number Links = 7
clause_number Readiness = 8
clause_number Arrivals = 9
clause_number Frames = 10
clause_number Channels = 11

-- the plan keeps every rule of a lesser number
pub record KeepsBefore (i : Instance) (plan : Plan) (clause : Clause) : Type 0 where
  pub each : (earlier : Clause) → clause_number earlier < clause_number clause → Keeps i plan earlier

-- this list has a wrong length, and those before it have right ones
abbrev pub IsFirstWrongList : Instance → Plan → PlanPart → Type 0
IsFirstWrongList i plan part.Order = ¬ HasOrderLength i plan
IsFirstWrongList i plan part.Capacities = HasOrderLength i plan × ¬ HasCapacitiesLength i plan
IsFirstWrongList i plan part.Starts = HasOrderLength i plan × HasCapacitiesLength i plan × ¬ HasStartsLength i plan
IsFirstWrongList i plan part.Rounds = HasOrderLength i plan × HasCapacitiesLength i plan × HasStartsLength i plan × ¬ HasRoundsLength i plan
IsFirstWrongList i plan part.Channels = HasOrderLength i plan × HasCapacitiesLength i plan × HasStartsLength i plan × HasRoundsLength i plan × ¬ HasChannelsLength i plan

-- p and q overlap, and no pair before them does: none with a lesser first, and none of p with a lesser second
pub record IsFirstOverlap (i : Instance) (plan : Plan) (p q : ℕ) : Type 0 where
  pub in_order : p < q
  pub within : q < length i.processes
  pub overlap : ¬ AreApart i plan p q
  pub same_first : (k : ℕ) → p < k → k < q → AreApart i plan p k
  pub lower_first : EachBelow p (IsApartFromLater i plan)

-- the first message that is late at a receiver, and its first such receiver
pub record IsFirstLate (i : Instance) (plan : Plan) (m q : ℕ) : Type 0 where
  pub within : m < length i.messages
  pub place : ℕ
  pub first : IsFirstFailure (length (message_at i m).receivers) (HasArrivedAt i plan m) place
  pub receiver : slice_index (message_at i m).receivers place ≡ q
  pub before : EachBelow m (HasArrivedEverywhere i plan)

-- in a cluster of so many channels the frame, by node and round, of the first message in an overfull one, and the first
-- channel of this message on which it is overfull
pub record IsFirstOverfull (i : Instance) (plan : Plan) (channels n r c : ℕ) : Type 0 where
  pub cluster : i.cluster.channels ≡ channels
  pub message : ℕ
  pub first : IsFirstFailure (length i.messages) (FitsFrame i plan) message
  pub channel : IsFirstFailure channels (FitsOn i plan message) c
  pub node : source_of i message ≡ n
  pub round : round_of plan message ≡ r

-- the plan keeps every rule before this one, and here is its first failure
abbrev pub Breaks : Instance → Plan → Clause → Type 0 → Type 0
Breaks i plan clause Failure = KeepsBefore i plan clause × Failure

-- the fault that a plan has, rule by rule
abbrev pub IsFirstFault : Instance → Plan → PlanFault → Type 0
IsFirstFault i plan (WrongLength list) = Breaks i plan Lengths (IsFirstWrongList i plan list)
IsFirstFault i plan (WrongOrder k) = Breaks i plan Order (IsFirstFailure (length i.nodes) (IsNewNode (length i.nodes) plan.order) k)
IsFirstFault i plan (WrongCapacity n) = Breaks i plan Capacities (IsFirstFailure (length i.nodes) (HasOwnCapacity i plan.caps) n)
IsFirstFault i plan (TooEarly p) = Breaks i plan Releases (IsFirstFailure (length i.processes) (IsReleased i plan) p)
IsFirstFault i plan (TooLate p) = Breaks i plan Ends (IsFirstFailure (length i.processes) (EndsInTime i plan) p)
IsFirstFault i plan (Overlap p q) = Breaks i plan Overlaps (IsFirstOverlap i plan p q)
IsFirstFault i plan (BrokenLink l) = Breaks i plan Links (IsFirstFailure (length i.links) (KeepsLink i plan) l)
IsFirstFault i plan (NotReady m) = Breaks i plan Readiness (IsFirstFailure (length i.messages) (IsReady i plan) m)
IsFirstFault i plan (NotArrived m q) = Breaks i plan Arrivals (IsFirstLate i plan m q)
IsFirstFault i plan (Overfull n r) = Breaks i plan Frames (IsFirstOverfull i plan 1 n r 0)
IsFirstFault i plan (OverfullOn n r c) = Breaks i plan Frames (IsFirstOverfull i plan 2 n r c)
IsFirstFault i plan (WrongChannel m) = Breaks i plan Channels (IsFirstFailure (length i.messages) (HasOwnChannel i plan) m)
