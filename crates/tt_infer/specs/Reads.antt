-- What steps read, of what is known and of what a choice and its goal give beside it. Own profile.
use Rattle.std.specs.Prelude.{◌≡◌, ◌≢◌, ℕ, ◌+◌, ◌-◌, ◌<◌, ◌≤◌, ◌⊎◌, ◌&&◌, List, length, slice_index, Bool, IsTrue, IsFalse}
use Rattle.ttp_model.specs.declared.step.Step.{Step}
use Rattle.ttp_model.specs.Instance.{Instance, node_of, source_of}
use Rattle.ttp_model.specs.Graph.{HasLink, Leads}
use Rattle.tt_choice.specs.Choice.{Choice}
use Rattle.tt_choice.specs.Extremes.{start_least, start_most, end_least, end_most, cap_least, cap_most}
use Rattle.sought_plans.specs.Known.{Known, es_of, le_of, lo_of, top_of, bef_of}
use Rattle.sought_plans.specs.Premises.{sender_of, runs_within, sent_within, copies, counts_on}
use Rattle.sought_plans.specs.Dominance.{IsSentTo, StandsFirst}
use Rattle.sought_plans.specs.Conclusions.{Conclusion}
use Rattle.tt_infer.specs.Table.{AreProcesses, rule, reads}
use Rattle.tt_infer.specs.Sources.{Source, Learnt, Fixed, Waits, Circle, Runs, Frames, Halves, Earlier, Lower, Reads, Nothing, One, Two}
use Rattle.tt_infer.specs.declared.fact.Fact.{Fact}
use Rattle.tt_infer.specs.declared.fact.Fact.TheVariants.{Start, End, FirstRound, LateRound, Order, Closed}
use Rattle.tt_infer.specs.declared.limit.Limit.{Limit}
use Rattle.tt_infer.specs.declared.limit.Limit.TheVariants.{Goal, LeastSlot, GreatestSlot, LeastFrame, GreatestFrame, Place, Copies, Counted}

-- the same of a fact is known in two states
abbrev pub AgreeOn : Known → Known → Fact → Type 0
AgreeOn f g (Start p) = es_of f p ≡ es_of g p
AgreeOn f g (End p) = le_of f p ≡ le_of g p
AgreeOn f g (FirstRound m) = lo_of f m ≡ lo_of g m
AgreeOn f g (LateRound m) = top_of f m ≡ top_of g m
AgreeOn f g (Order p q) = bef_of f p q ≡ bef_of g p q
AgreeOn f g Closed = f.closed ≡ g.closed

-- a slot begins and ends at least, or at most, at the same times in each round
abbrev pub IsSameSlot : (ℕ → ℕ) → (ℕ → ℕ) → (ℕ → ℕ) → (ℕ → ℕ) → Type 0
IsSameSlot start end start' end' = (r : ℕ) → (start r ≡ start' r) × (end r ≡ end' r)

-- a choice with its goal gives a limit as another does; of a place: who doesn't stand in front of a node doesn't so there
abbrev pub GivesAlike : Instance → Choice → ℕ → Choice → ℕ → Limit → Type 0
GivesAlike i c goal d aim Goal = goal ≡ aim
GivesAlike i c goal d aim (LeastSlot n) = IsSameSlot (start_least i c n) (end_least i c n) (start_least i d n) (end_least i d n)
GivesAlike i c goal d aim (GreatestSlot n) = IsSameSlot (start_most i c n) (end_most i c n) (start_most i d n) (end_most i d n)
GivesAlike i c goal d aim (LeastFrame n) = cap_least i c n ≡ cap_least i d n
GivesAlike i c goal d aim (GreatestFrame n) = cap_most i c n ≡ cap_most i d n
GivesAlike i c goal d aim (Place v) = (u : ℕ) → StandsFirst c.prefix v u → StandsFirst d.prefix v u
GivesAlike i c goal d aim (Copies m) = copies c m ≡ copies d m
GivesAlike i c goal d aim (Counted m k) = counts_on c k m ≡ counts_on d k m

-- a fact is so of something that is numbered below a count
abbrev pub OfSome : ℕ → (ℕ → Fact → Type 0) → Fact → Type 0
OfSome count IsOf fact = (k : ℕ) × (k < count) × IsOf k fact

-- another process of p's node, to which no link leads from p: p may have to wait for it
pub record IsRival (i : Instance) (p x : ℕ) : Type 0 where
  pub other : x ≢ p
  pub one_node : node_of i x ≡ node_of i p
  pub no_link : ¬ HasLink i p x

-- what tells how long p may have to wait for a rival: whether p goes first, and where that isn't known when the rival ends
abbrev pub TellsWait : Known → ℕ → ℕ → Fact → Type 0
TellsWait f p x fact = (fact ≡ Order p x) ⊎ (IsFalse (bef_of f p x) × (fact ≡ End x))

-- one process stands in front of another in a ring, the last in front of the first
abbrev pub AreNeighbours : List ℕ → ℕ → ℕ → Type 0
AreNeighbours ps p q =
    ((k : ℕ) × (k + 1 < length ps) × (slice_index ps k ≡ p) × (slice_index ps (k + 1) ≡ q))
    ⊎ ((slice_index ps (length ps - 1) ≡ p) × (slice_index ps 0 ≡ q))

-- neighbours of a ring of which the first goes before the second by nothing but what is known
pub record IsKnownPair (i : Instance) (ps : List ℕ) (fact : Fact) : Type 0 where
  pub first : ℕ
  pub second : ℕ
  pub neighbours : AreNeighbours ps first second
  pub no_lead : ¬ Leads i first second
  pub order : fact ≡ Order first second

-- the bounds of a process that runs in a span from a on: one from 0 on asks for no start
abbrev pub BoundsRun : ℕ → ℕ → Fact → Type 0
BoundsRun a p fact = (fact ≡ End p) ⊎ ((1 ≤ a) × (fact ≡ Start p))

-- and those of a message that is sent in rounds from a on
abbrev pub BoundsSending : ℕ → ℕ → Fact → Type 0
BoundsSending a m fact = (fact ≡ LateRound m) ⊎ ((1 ≤ a) × (fact ≡ FirstRound m))

-- a message is fixed to channel k, or to both, and is of node n and sent from round a on and before b
abbrev pub counted_within : Instance → Choice → Known → ℕ → ℕ → ℕ → ℕ → ℕ → Bool
counted_within i c f k n a b m = counts_on c k m && sent_within i f n a b m

-- what keeps a message out of the frame of round r: it is sent later, or else earlier
abbrev pub KeepsOut : Known → ℕ → ℕ → Fact → Type 0
KeepsOut f r k fact =
    ((r < lo_of f k) × (fact ≡ FirstRound k)) ⊎ ((lo_of f k ≤ r) × (top_of f k ≤ r) × (fact ≡ LateRound k))

-- another message of m's node
pub record IsOtherOf (i : Instance) (m k : ℕ) : Type 0 where
  pub other : k ≢ m
  pub one_node : source_of i k ≡ source_of i m

-- what tells that messages m and k are in no round together, where the rounds tell it: that k is sent before m, or else that m is
-- sent before k
abbrev pub TellsApart : Known → ℕ → ℕ → Fact → Type 0
TellsApart f m k fact =
    ((top_of f k ≤ lo_of f m) × ((fact ≡ LateRound k) ⊎ (fact ≡ FirstRound m)))
    ⊎ ((lo_of f m < top_of f k) × (top_of f m ≤ lo_of f k) × ((fact ≡ LateRound m) ⊎ (fact ≡ FirstRound k)))

-- and where they don't tell it: both may be in one round
abbrev pub MayMeet : Known → ℕ → ℕ → Type 0
MayMeet f m k = (lo_of f m < top_of f k) × (lo_of f k < top_of f m)

-- The facts that a source is, at a choice where this is known.
abbrev pub IsFactOf : Instance → Choice → Known → Source → Fact → Type 0
IsFactOf i c f (Learnt known) fact = fact ≡ known
IsFactOf i c f (Fixed limit) fact = ⊥
IsFactOf i c f (Waits p) fact =
    OfSome (length i.processes) (λ x told. IsRival i p x × TellsWait f p x told) fact
    ⊎ OfSome (length i.messages) (λ m told. IsSentTo i p m × (told ≡ LateRound m)) fact
IsFactOf i c f (Circle ps) fact = IsKnownPair i ps fact
IsFactOf i c f (Runs n a b) fact =
    OfSome (length i.processes) (λ p told. IsTrue (runs_within i f n a b p) × BoundsRun a p told) fact
IsFactOf i c f (Frames n a b) fact =
    OfSome (length i.messages) (λ m told. IsTrue (sent_within i f n a b m) × BoundsSending a m told) fact
IsFactOf i c f (Halves k n a b) fact =
    OfSome (length i.messages) (λ m told. IsTrue (counted_within i c f k n a b m) × BoundsSending a m told) fact
IsFactOf i c f (Earlier m r) fact =
    ((fact ≡ FirstRound m) ⊎ (fact ≡ End (sender_of i m)))
    ⊎ OfSome (length i.messages) (λ k told. IsOtherOf i m k × KeepsOut f r k told) fact
IsFactOf i c f (Lower m) fact = OfSome m (λ k told. (source_of i k ≡ source_of i m) × TellsApart f m k told) fact

-- The limits that it is.
abbrev pub IsLimitOf : Instance → Choice → Known → Source → Limit → Type 0
IsLimitOf i c f (Learnt known) limit = ⊥
IsLimitOf i c f (Fixed given) limit = limit ≡ given
IsLimitOf i c f (Waits p) limit = (m : ℕ) × IsSentTo i p m × (limit ≡ GreatestSlot (source_of i m))
IsLimitOf i c f (Circle ps) limit = ⊥
IsLimitOf i c f (Runs n a b) limit = ⊥
IsLimitOf i c f (Frames n a b) limit =
    (limit ≡ GreatestFrame n) ⊎ ((m : ℕ) × (m < length i.messages) × IsTrue (sent_within i f n a b m) × (limit ≡ Copies m))
IsLimitOf i c f (Halves k n a b) limit =
    (limit ≡ GreatestFrame n) ⊎ ((m : ℕ) × (m < length i.messages) × IsTrue (counted_within i c f k n a b m) × (limit ≡ Counted m k))
IsLimitOf i c f (Earlier m r) limit = (limit ≡ LeastSlot (source_of i m)) ⊎ (limit ≡ LeastFrame (source_of i m))
IsLimitOf i c f (Lower m) limit =
    ((limit ≡ Copies m) ⊎ (limit ≡ Counted m 1))
    ⊎ ((k : ℕ) × (k < m) × (source_of i k ≡ source_of i m) × MayMeet f m k × (limit ≡ Copies k))

-- what a fact is about is there
abbrev pub IsFactThere : Instance → Fact → Type 0
IsFactThere i (Start p) = p < length i.processes
IsFactThere i (End p) = p < length i.processes
IsFactThere i (FirstRound m) = m < length i.messages
IsFactThere i (LateRound m) = m < length i.messages
IsFactThere i (Order p q) = (p < length i.processes) × (q < length i.processes)
IsFactThere i Closed = Unit {0}

-- what a limit is about is there
abbrev pub IsLimitThere : Instance → Limit → Type 0
IsLimitThere i Goal = Unit {0}
IsLimitThere i (LeastSlot n) = n < length i.nodes
IsLimitThere i (GreatestSlot n) = n < length i.nodes
IsLimitThere i (LeastFrame n) = n < length i.nodes
IsLimitThere i (GreatestFrame n) = n < length i.nodes
IsLimitThere i (Place v) = v < length i.nodes
IsLimitThere i (Copies m) = m < length i.messages
IsLimitThere i (Counted m k) = m < length i.messages

-- what a source is about is there
abbrev pub IsSourceThere : Instance → Source → Type 0
IsSourceThere i (Learnt fact) = IsFactThere i fact
IsSourceThere i (Fixed limit) = IsLimitThere i limit
IsSourceThere i (Waits p) = p < length i.processes
IsSourceThere i (Circle ps) = AreProcesses i ps
IsSourceThere i (Runs n a b) = n < length i.nodes
IsSourceThere i (Frames n a b) = n < length i.nodes
IsSourceThere i (Halves k n a b) = (n < length i.nodes) × (2 ≤ i.cluster.channels)
IsSourceThere i (Earlier m r) = m < length i.messages
IsSourceThere i (Lower m) = m < length i.messages

-- a node whose place is a limit stands in front of another one
abbrev pub StandsFront : Choice → Limit → Type 0
StandsFront c Goal = Unit {0}
StandsFront c (LeastSlot n) = Unit {0}
StandsFront c (GreatestSlot n) = Unit {0}
StandsFront c (LeastFrame n) = Unit {0}
StandsFront c (GreatestFrame n) = Unit {0}
StandsFront c (Place v) = (u : ℕ) × StandsFirst c.prefix v u
StandsFront c (Copies m) = Unit {0}
StandsFront c (Counted m k) = Unit {0}

-- a source that is such a limit is one of such a node
abbrev pub HasItsPlace : Choice → Source → Type 0
HasItsPlace c (Learnt fact) = Unit {0}
HasItsPlace c (Fixed limit) = StandsFront c limit
HasItsPlace c (Waits p) = Unit {0}
HasItsPlace c (Circle ps) = Unit {0}
HasItsPlace c (Runs n a b) = Unit {0}
HasItsPlace c (Frames n a b) = Unit {0}
HasItsPlace c (Halves k n a b) = Unit {0}
HasItsPlace c (Earlier m r) = Unit {0}
HasItsPlace c (Lower m) = Unit {0}

-- one of the sources that are read
abbrev pub OfOne : (Source → Type 0) → Reads → Type 0
OfOne Is Nothing = ⊥
OfOne Is (One source) = Is source
OfOne Is (Two first second) = Is first ⊎ Is second

-- each of them
abbrev pub OfEach : (Source → Type 0) → Reads → Type 0
OfEach Is Nothing = Unit {0}
OfEach Is (One source) = Is source
OfEach Is (Two first second) = Is first × Is second

-- the facts and the limits that a step reads
abbrev pub ReadsFact : Instance → Choice → Known → Step → Fact → Type 0
ReadsFact i c f step fact = OfOne (λ source. IsFactOf i c f source fact) (reads i step)

abbrev pub ReadsLimit : Instance → Choice → Known → Step → Limit → Type 0
ReadsLimit i c f step limit = OfOne (λ source. IsLimitOf i c f source limit) (reads i step)

-- two choices with their goals, and what is known at each, agree on all that a step reads at the first
pub record AgreeOnReads (i : Instance) (c : Choice) (goal : ℕ) (f : Known) (d : Choice) (aim : ℕ) (g : Known) (step : Step) : Type 0 where
  pub facts : (fact : Fact) → ReadsFact i c f step fact → AgreeOn f g fact
  pub limits : (limit : Limit) → ReadsLimit i c f step limit → GivesAlike i c goal d aim limit

-- a step can be taken, and concludes this
pub record Gives (i : Instance) (c : Choice) (goal : ℕ) (f : Known) (step : Step) (k : Conclusion) : Type 0 where
  pub there : (rule i c goal f step).there
  pub premise : (rule i c goal f step).premise
  pub concludes : (rule i c goal f step).concludes k
