-- The steps of inference as a table: what each names, what it asks for, what it concludes, writes and reads, and how it is written. Own profile.
use Rattle.std.specs.Prelude.{◌≡◌, ℕ, ◌+◌, ◌-◌, ◌<◌, ◌≤◌, IsTrue, List, [], ◌∷◌, length, slice_index, min, codes, bytes_eq, if◌then◌else◌}
use Rattle.ttp_model.specs.declared.step.Step.{Step}
use Rattle.ttp_model.specs.declared.step.Step.TheVariants.{EsRelease, EsLink, EsBefore, EsArrive, EsMessage, LoSend, LeOwn, LeLink, LeBefore, LeMessage, LeSend, HiArrive, OrdWindow, OrdTwin, UsSettled, XWindow, XRound, XCycle, XLoad, XFrame, XFrames, XChannel, XLate, XSilent, XMirror}
use Rattle.ttp_model.specs.Lists.{EachBelow}
use Rattle.ttp_model.specs.Instance.{Instance, process_at, message_at, link_at, source_of}
use Rattle.tt_choice.specs.Choice.{Choice, ArePair}
use Rattle.tt_choice.specs.Extremes.{start_most, end_least, cap_most, dur_least}
use Rattle.sought_plans.specs.Known.{Known, le_of, lo_of, top_of, bef_of}
use Rattle.sought_plans.specs.Conclusions.{Conclusion, StartsFrom, EndsUntil, SentFrom, SentBefore, GoesFirst, NothingLeft, sharpened}
use Rattle.sought_plans.specs.Dominance.{AreTwinsInOrder, HasRounds, IsGreatestWait, CouldBeEarlier, StandTurned, IsMirrored}
use Rattle.sought_plans.specs.Premises.{GoesTo, wcet_of, sender_of, least_end, most_start, least_ready, IsFirstChance, AreChances, IsRing, IsOverloaded, AreOverfull, AreOverfullOn}
use Rattle.tt_infer.specs.Lines.{Words, Row, plain_line, channel_line}
use Rattle.tt_infer.specs.declared.fact.Fact.{Fact}
use Rattle.tt_infer.specs.declared.fact.Fact.TheVariants.{Start, End, FirstRound, LateRound, Order, Closed}
use Rattle.tt_infer.specs.declared.limit.Limit.TheVariants.{Goal, LeastSlot, GreatestSlot, LeastFrame, GreatestFrame, Place}
use Rattle.tt_infer.specs.Sources.{Learnt, Fixed, Waits, Circle, Runs, Frames, Halves, Earlier, Lower, Reads, Nothing, One, Two}

-- a row: what the step names is there, its premise, and what it concludes
pub record StepRow : Type 1 where
  pub there : Type 0
  pub premise : Type 0
  pub concludes : Conclusion → Type 0

abbrev pub row : Type 0 → Type 0 → (Conclusion → Type 0) → StepRow
row there premise concludes = record { there = there; premise = premise; concludes = concludes }

-- the index is one of a process, a link, a message, a node
abbrev pub IsProcess : Instance → ℕ → Type 0
IsProcess i p = p < length i.processes

abbrev pub IsLink : Instance → ℕ → Type 0
IsLink i l = l < length i.links

abbrev pub IsMessage : Instance → ℕ → Type 0
IsMessage i m = m < length i.messages

abbrev pub IsNode : Instance → ℕ → Type 0
IsNode i n = n < length i.nodes

-- the node is there, and its frames have a half on this channel beside another
abbrev pub HasHalf : Instance → ℕ → ℕ → Type 0
HasHalf i n k = IsNode i n × ((2 ≤ i.cluster.channels) × (k < i.cluster.channels))

-- two processes or more, which are there
abbrev pub AreProcesses : Instance → List ℕ → Type 0
AreProcesses i ps = (2 ≤ length ps) × EachBelow (length ps) (λ k. IsProcess i (slice_index ps k))

-- a step that asks for nothing more
abbrev pub Always : Type 0
Always = Unit {0}

-- just this conclusion
abbrev pub Just : Conclusion → Conclusion → Type 0
Just this other = other ≡ this

-- The table.
abbrev pub rule : Instance → Choice → ℕ → Known → Step → StepRow
rule i c goal f (EsRelease p) = row (IsProcess i p) Always (Just (StartsFrom p (process_at i p).release))
rule i c goal f (EsLink l) = row (IsLink i l) Always (Just (StartsFrom (link_at i l).after (least_end i f (link_at i l).before)))
rule i c goal f (EsBefore p q) = row (ArePair i p q) (IsTrue (bef_of f p q)) (Just (StartsFrom q (least_end i f p)))
rule i c goal f (EsArrive m q) = row (GoesTo i m q) Always (Just (StartsFrom q (end_least i c (source_of i m) (lo_of f m) + i.cluster.copy_in)))
rule i c goal f (EsMessage m q) = row (GoesTo i m q) Always (Just (StartsFrom q (least_ready i f m + dur_least i c (source_of i m) + i.cluster.copy_in)))
rule i c goal f (LoSend m) = row (IsMessage i m) Always (λ k. (r : ℕ) × IsFirstChance i c f m r × (k ≡ SentFrom m r))
rule i c goal f (LeOwn p) = row (IsProcess i p) Always (Just (EndsUntil p (min (min (process_at i p).deadline i.cluster.horizon) (goal - 1))))
rule i c goal f (LeLink l) = row (IsLink i l) Always (Just (EndsUntil (link_at i l).before (most_start i f (link_at i l).after)))
rule i c goal f (LeBefore p q) = row (ArePair i p q) (IsTrue (bef_of f p q)) (Just (EndsUntil p (most_start i f q)))
rule i c goal f (LeMessage m q) = row (GoesTo i m q) Always (Just (EndsUntil (sender_of i m) (most_start i f q - i.cluster.copy_in - dur_least i c (source_of i m) - i.cluster.copy_out)))
rule i c goal f (LeSend m) = row (IsMessage i m) (1 ≤ top_of f m) (Just (EndsUntil (sender_of i m) (start_most i c (source_of i m) (top_of f m - 1) - i.cluster.copy_out)))
rule i c goal f (HiArrive m q) = row (GoesTo i m q) Always (λ k. (r : ℕ) × AreChances i c f m q r × (k ≡ SentBefore m r))
rule i c goal f (OrdWindow p q) = row (ArePair i p q) (le_of f p < least_end i f q + wcet_of i p) (Just (GoesFirst p q))
rule i c goal f (OrdTwin p q) = row (ArePair i p q) (AreTwinsInOrder i p q) (Just (GoesFirst p q))
rule i c goal f (UsSettled p) = row (IsProcess i p) (HasRounds i f p) (λ k. (time : ℕ) × IsGreatestWait i c f p time × (k ≡ EndsUntil p (wcet_of i p + time)))
rule i c goal f (XWindow p) = row (IsProcess i p) (le_of f p < least_end i f p) (Just NothingLeft)
rule i c goal f (XRound m) = row (IsMessage i m) (top_of f m ≤ lo_of f m) (Just NothingLeft)
rule i c goal f (XCycle ps) = row (AreProcesses i ps) (IsRing i f ps) (Just NothingLeft)
rule i c goal f (XLoad n a b) = row (IsNode i n) (IsOverloaded i f n a b) (Just NothingLeft)
rule i c goal f (XFrame m) = row (IsMessage i m) (cap_most i c (source_of i m) < (message_at i m).bytes) (Just NothingLeft)
rule i c goal f (XFrames n a b) = row (IsNode i n) (AreOverfull i c f n a b) (Just NothingLeft)
rule i c goal f (XChannel k n a b) = row (HasHalf i n k) (AreOverfullOn i c f k n a b) (Just NothingLeft)
rule i c goal f (XLate m r) = row (IsMessage i m) (CouldBeEarlier i c f m r) (Just NothingLeft)
rule i c goal f (XSilent u v) = row (IsNode i u × IsNode i v) (StandTurned i c u v) (Just NothingLeft)
rule i c goal f (XMirror m) = row (IsMessage i m) (IsMirrored i c f m) (Just NothingLeft)

-- the fact that a conclusion sharpens
abbrev pub fact_of : Conclusion → Fact
fact_of (StartsFrom p time) = Start p
fact_of (EndsUntil p time) = End p
fact_of (SentFrom m r) = FirstRound m
fact_of (SentBefore m r) = LateRound m
fact_of (GoesFirst p q) = Order p q
fact_of NothingLeft = Closed

-- The fact that a step sharpens.
abbrev pub target : Instance → Step → Fact
target i (EsRelease p) = Start p
target i (EsLink l) = Start (link_at i l).after
target i (EsBefore p q) = Start q
target i (EsArrive m q) = Start q
target i (EsMessage m q) = Start q
target i (LoSend m) = FirstRound m
target i (LeOwn p) = End p
target i (LeLink l) = End (link_at i l).before
target i (LeBefore p q) = End p
target i (LeMessage m q) = End (sender_of i m)
target i (LeSend m) = End (sender_of i m)
target i (HiArrive m q) = LateRound m
target i (OrdWindow p q) = Order p q
target i (OrdTwin p q) = Order p q
target i (UsSettled p) = End p
target i (XWindow p) = Closed
target i (XRound m) = Closed
target i (XCycle ps) = Closed
target i (XLoad n a b) = Closed
target i (XFrame m) = Closed
target i (XFrames n a b) = Closed
target i (XChannel k n a b) = Closed
target i (XLate m r) = Closed
target i (XSilent u v) = Closed
target i (XMirror m) = Closed

-- What a step reads.
abbrev pub reads : Instance → Step → Reads
reads i (EsRelease p) = Nothing
reads i (EsLink l) = One (Learnt (Start (link_at i l).before))
reads i (EsBefore p q) = Two (Learnt (Start p)) (Learnt (Order p q))
reads i (EsArrive m q) = Two (Learnt (FirstRound m)) (Fixed (LeastSlot (source_of i m)))
reads i (EsMessage m q) = Two (Learnt (Start (sender_of i m))) (Fixed (LeastFrame (source_of i m)))
reads i (LoSend m) = Two (Learnt (Start (sender_of i m))) (Fixed (GreatestSlot (source_of i m)))
reads i (LeOwn p) = One (Fixed Goal)
reads i (LeLink l) = One (Learnt (End (link_at i l).after))
reads i (LeBefore p q) = Two (Learnt (End q)) (Learnt (Order p q))
reads i (LeMessage m q) = Two (Learnt (End q)) (Fixed (LeastFrame (source_of i m)))
reads i (LeSend m) = Two (Learnt (LateRound m)) (Fixed (GreatestSlot (source_of i m)))
reads i (HiArrive m q) = Two (Learnt (End q)) (Fixed (LeastSlot (source_of i m)))
reads i (OrdWindow p q) = Two (Learnt (End p)) (Learnt (Start q))
reads i (OrdTwin p q) = Nothing
reads i (UsSettled p) = One (Waits p)
reads i (XWindow p) = Two (Learnt (Start p)) (Learnt (End p))
reads i (XRound m) = Two (Learnt (FirstRound m)) (Learnt (LateRound m))
reads i (XCycle ps) = One (Circle ps)
reads i (XLoad n a b) = One (Runs n a b)
reads i (XFrame m) = One (Fixed (GreatestFrame (source_of i m)))
reads i (XFrames n a b) = One (Frames n a b)
reads i (XChannel k n a b) = One (Halves k n a b)
reads i (XLate m r) = One (Earlier m r)
reads i (XSilent u v) = One (Fixed (Place v))
reads i (XMirror m) = One (Lower m)

-- The steps that an instance names beforehand, in the order in which they are tried: of two processes of a node, of a message and one of
-- its receivers, of a message, of a link, of a process alone, and those that close one. All others are looked for.
abbrev pub pair_steps : ℕ → ℕ → List Step
pair_steps p q = LeBefore p q ∷ EsBefore p q ∷ OrdWindow q p ∷ []

abbrev pub transfer_steps : ℕ → ℕ → List Step
transfer_steps m q = LeMessage m q ∷ HiArrive m q ∷ EsMessage m q ∷ EsArrive m q ∷ []

abbrev pub message_steps : ℕ → List Step
message_steps m = LeSend m ∷ LoSend m ∷ []

abbrev pub link_steps : ℕ → List Step
link_steps l = EsLink l ∷ LeLink l ∷ []

abbrev pub process_steps : ℕ → List Step
process_steps p = LeOwn p ∷ EsRelease p ∷ []

abbrev pub process_closers : ℕ → List Step
process_closers p = XWindow p ∷ []

abbrev pub message_closers : ℕ → List Step
message_closers m = XRound m ∷ XFrame m ∷ []

-- the steps that ask for a round in which a message can be sent
abbrev pub AsksForRounds : Step → Type 0
AsksForRounds (EsRelease p) = ⊥
AsksForRounds (EsLink l) = ⊥
AsksForRounds (EsBefore p q) = ⊥
AsksForRounds (EsArrive m q) = ⊥
AsksForRounds (EsMessage m q) = ⊥
AsksForRounds (LoSend m) = ⊥
AsksForRounds (LeOwn p) = ⊥
AsksForRounds (LeLink l) = ⊥
AsksForRounds (LeBefore p q) = ⊥
AsksForRounds (LeMessage m q) = ⊥
AsksForRounds (LeSend m) = Unit {0}
AsksForRounds (HiArrive m q) = ⊥
AsksForRounds (OrdWindow p q) = ⊥
AsksForRounds (OrdTwin p q) = ⊥
AsksForRounds (UsSettled p) = Unit {0}
AsksForRounds (XWindow p) = ⊥
AsksForRounds (XRound m) = ⊥
AsksForRounds (XCycle ps) = ⊥
AsksForRounds (XLoad n a b) = ⊥
AsksForRounds (XFrame m) = ⊥
AsksForRounds (XFrames n a b) = ⊥
AsksForRounds (XChannel k n a b) = ⊥
AsksForRounds (XLate m r) = ⊥
AsksForRounds (XSilent u v) = ⊥
AsksForRounds (XMirror m) = ⊥

-- the five steps that are true of settled plans alone
abbrev pub IsDominance : Step → Type 0
IsDominance (EsRelease p) = ⊥
IsDominance (EsLink l) = ⊥
IsDominance (EsBefore p q) = ⊥
IsDominance (EsArrive m q) = ⊥
IsDominance (EsMessage m q) = ⊥
IsDominance (LoSend m) = ⊥
IsDominance (LeOwn p) = ⊥
IsDominance (LeLink l) = ⊥
IsDominance (LeBefore p q) = ⊥
IsDominance (LeMessage m q) = ⊥
IsDominance (LeSend m) = ⊥
IsDominance (HiArrive m q) = ⊥
IsDominance (OrdWindow p q) = ⊥
IsDominance (OrdTwin p q) = Unit {0}
IsDominance (UsSettled p) = Unit {0}
IsDominance (XWindow p) = ⊥
IsDominance (XRound m) = ⊥
IsDominance (XCycle ps) = ⊥
IsDominance (XLoad n a b) = ⊥
IsDominance (XFrame m) = ⊥
IsDominance (XFrames n a b) = ⊥
IsDominance (XChannel k n a b) = ⊥
IsDominance (XLate m r) = Unit {0}
IsDominance (XSilent u v) = Unit {0}
IsDominance (XMirror m) = Unit {0}

-- a step of the table: what it names is there, its premise holds, and what is known after it is what
-- was known before, sharpened by its conclusion
pub record IsLawful (i : Instance) (c : Choice) (goal : ℕ) (f : Known) (step : Step) (g : Known) : Type 0 where
  pub there : (rule i c goal f step).there
  pub premise : (rule i c goal f step).premise
  pub conclusion : Conclusion
  pub concludes : (rule i c goal f step).concludes conclusion
  pub known : g ≡ sharpened i f conclusion

-- The line of a step: p and q are processes, l is a link, m a message, n, u and v are nodes, r is a
-- round, k a channel, and a and b are the ends of a range.
abbrev pub step_row : Step → Row
step_row (EsRelease p) = plain_line (codes "es-release") (p ∷ [])
step_row (EsLink l) = plain_line (codes "es-link") (l ∷ [])
step_row (EsBefore p q) = plain_line (codes "es-before") (p ∷ q ∷ [])
step_row (EsArrive m q) = plain_line (codes "es-arrive") (m ∷ q ∷ [])
step_row (EsMessage m q) = plain_line (codes "es-message") (m ∷ q ∷ [])
step_row (LoSend m) = plain_line (codes "lo-send") (m ∷ [])
step_row (LeOwn p) = plain_line (codes "le-own") (p ∷ [])
step_row (LeLink l) = plain_line (codes "le-link") (l ∷ [])
step_row (LeBefore p q) = plain_line (codes "le-before") (p ∷ q ∷ [])
step_row (LeMessage m q) = plain_line (codes "le-message") (m ∷ q ∷ [])
step_row (LeSend m) = plain_line (codes "le-send") (m ∷ [])
step_row (HiArrive m q) = plain_line (codes "hi-arrive") (m ∷ q ∷ [])
step_row (OrdWindow p q) = plain_line (codes "ord-window") (p ∷ q ∷ [])
step_row (OrdTwin p q) = plain_line (codes "ord-twin") (p ∷ q ∷ [])
step_row (UsSettled p) = plain_line (codes "us-settled") (p ∷ [])
step_row (XWindow p) = plain_line (codes "x-window") (p ∷ [])
step_row (XRound m) = plain_line (codes "x-round") (m ∷ [])
step_row (XCycle ps) = plain_line (codes "x-cycle") ps
step_row (XLoad n a b) = plain_line (codes "x-load") (n ∷ a ∷ b ∷ [])
step_row (XFrame m) = plain_line (codes "x-frame") (m ∷ [])
step_row (XFrames n a b) = plain_line (codes "x-frames") (n ∷ a ∷ b ∷ [])
step_row (XChannel k n a b) = channel_line (codes "x-channel") (k ∷ n ∷ a ∷ b ∷ [])
step_row (XLate m r) = plain_line (codes "x-late") (m ∷ r ∷ [])
step_row (XSilent u v) = plain_line (codes "x-silent") (u ∷ v ∷ [])
step_row (XMirror m) = channel_line (codes "x-mirror") (m ∷ [])

abbrev pub step_words : Step → Words
step_words step = (step_row step).words

-- a cycle goes through two or more processes, and each other line has a number
abbrev pub IsLong : Step → Type 0
IsLong step = (if bytes_eq (step_words step).0 (codes "x-cycle") then 2 else 1) ≤ length (step_words step).1

-- What can be said with so many numbers: a cycle has two or more processes.
abbrev pub steps_with : List ℕ → List Step
steps_with [] = []
steps_with (a ∷ []) =
    EsRelease a ∷ EsLink a ∷ LoSend a ∷ LeOwn a ∷ LeLink a ∷ LeSend a
    ∷ UsSettled a ∷ XWindow a ∷ XRound a ∷ XFrame a ∷ XMirror a ∷ []
steps_with (a ∷ b ∷ []) =
    EsBefore a b ∷ EsArrive a b ∷ EsMessage a b ∷ LeBefore a b ∷ LeMessage a b ∷ HiArrive a b
    ∷ OrdWindow a b ∷ OrdTwin a b ∷ XLate a b ∷ XSilent a b ∷ XCycle (a ∷ b ∷ []) ∷ []
steps_with (a ∷ b ∷ c ∷ []) = XLoad a b c ∷ XFrames a b c ∷ XCycle (a ∷ b ∷ c ∷ []) ∷ []
steps_with (a ∷ b ∷ c ∷ d ∷ []) = XChannel a b c d ∷ XCycle (a ∷ b ∷ c ∷ d ∷ []) ∷ []
steps_with more = XCycle more ∷ []
