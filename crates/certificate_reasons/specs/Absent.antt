-- What that a step names isn't there. Own profile.
use Rattle.std.specs.Prelude.{◌≡◌, ℕ, ◌<◌, ◌≤◌, List, if◌then◌else◌, length, nat_lt, slice_index}
use Rattle.ttp_model.specs.declared.error.Part.{Part}
use Rattle.ttp_model.specs.declared.error.Part.TheVariants as part
use Rattle.ttp_model.specs.declared.step.Step.{Step}
use Rattle.ttp_model.specs.declared.step.Step.TheVariants.{EsRelease, EsLink, EsBefore, EsArrive, EsMessage, LoSend, LeOwn, LeLink, LeBefore, LeMessage, LeSend, HiArrive, OrdWindow, OrdTwin, UsSettled, XWindow, XRound, XCycle, XLoad, XFrame, XFrames, XChannel, XLate, XSilent, XMirror}
use Rattle.ttp_model.specs.Instance.{Instance}
use Rattle.ttp_model.specs.Lists.{EachBelow}
use Rattle.ttp_model.specs.Names.{message_name, process_name}
use Rattle.tt_choice.specs.Choice.{ArePair}
use Rattle.sought_plans.specs.Premises.{GoesTo}
use Rattle.tt_infer.specs.Table.{HasHalf}
use Rattle.certificate_reasons.specs.declared.absent.Absent.{Absent}
use Rattle.certificate_reasons.specs.declared.absent.Absent.TheVariants as absent
use Rattle.certificate_reasons.specs.declared.absent.NoPart.{NoPart}

-- how many nodes, processes, links or messages there are
abbrev pub part_count : Instance → Part → ℕ
part_count i part.Nodes = length i.nodes
part_count i part.Processes = length i.processes
part_count i part.Links = length i.links
part_count i part.Messages = length i.messages

-- the one of an index, which isn't there
pub record IsPartLacking (i : Instance) (part : Part) (k : ℕ) (x : NoPart) : Type 0 where
  pub part_is : x.part ≡ part
  pub index_is : x.index ≡ k
  pub count_is : x.count ≡ part_count i part
  pub lacking : x.count ≤ x.index

-- the same of a step
abbrev pub IsLackingPart : Instance → Part → ℕ → Absent → Type 0
IsLackingPart i part k (absent.Part x) = IsPartLacking i part k x
IsLackingPart i part k _ = ⊥

-- of two indices the first, unless that is there
abbrev pub first_absent : ℕ → ℕ → ℕ → ℕ
first_absent count p q = if nat_lt p count then q else p

-- one of two processes, or both are there and aren't two of one node
abbrev pub IsPairLacking : Instance → ℕ → ℕ → Absent → Type 0
IsPairLacking i p q (absent.Part x) = IsPartLacking i part.Processes (first_absent (length i.processes) p q) x
IsPairLacking i p q (absent.Pair process other) =
    (process.now ≡ process_name i p) × (other.now ≡ process_name i q) × ¬ ArePair i p q
IsPairLacking i p q _ = ⊥

-- a message or a process, or both are there and the process doesn't receive it
abbrev pub IsReceiverLacking : Instance → ℕ → ℕ → Absent → Type 0
IsReceiverLacking i m q (absent.Part x) =
    IsPartLacking i (if nat_lt m (length i.messages) then part.Processes else part.Messages) (if nat_lt m (length i.messages) then q else m) x
IsReceiverLacking i m q (absent.Receiver message process) =
    (message.now ≡ message_name i m) × (process.now ≡ process_name i q) × ¬ GoesTo i m q
IsReceiverLacking i m q _ = ⊥

-- a node, or it is there and the cluster has no such half of a frame
abbrev pub IsHalfLacking : Instance → ℕ → ℕ → Absent → Type 0
IsHalfLacking i n k (absent.Part x) = IsPartLacking i part.Nodes n x
IsHalfLacking i n k (absent.Half channel channels) = (channel ≡ k) × (channels ≡ i.cluster.channels) × ¬ HasHalf i n k
IsHalfLacking i n k _ = ⊥

-- the first of these processes that isn't there
pub record IsProcessLacking (i : Instance) (ps : List ℕ) (x : NoPart) : Type 0 where
  pub place : ℕ
  pub within : place < length ps
  pub before : EachBelow place (λ k. slice_index ps k < length i.processes)
  pub is : IsPartLacking i part.Processes (slice_index ps place) x

abbrev pub IsLackingProcess : Instance → List ℕ → Absent → Type 0
IsLackingProcess i ps (absent.Part x) = IsProcessLacking i ps x
IsLackingProcess i ps _ = ⊥

-- of a step
abbrev pub IsAbsent : Instance → Step → Absent → Type 0
IsAbsent i (EsRelease p) x = IsLackingPart i part.Processes p x
IsAbsent i (EsLink l) x = IsLackingPart i part.Links l x
IsAbsent i (EsBefore p q) x = IsPairLacking i p q x
IsAbsent i (EsArrive m q) x = IsReceiverLacking i m q x
IsAbsent i (EsMessage m q) x = IsReceiverLacking i m q x
IsAbsent i (LoSend m) x = IsLackingPart i part.Messages m x
IsAbsent i (LeOwn p) x = IsLackingPart i part.Processes p x
IsAbsent i (LeLink l) x = IsLackingPart i part.Links l x
IsAbsent i (LeBefore p q) x = IsPairLacking i p q x
IsAbsent i (LeMessage m q) x = IsReceiverLacking i m q x
IsAbsent i (LeSend m) x = IsLackingPart i part.Messages m x
IsAbsent i (HiArrive m q) x = IsReceiverLacking i m q x
IsAbsent i (OrdWindow p q) x = IsPairLacking i p q x
IsAbsent i (OrdTwin p q) x = IsPairLacking i p q x
IsAbsent i (UsSettled p) x = IsLackingPart i part.Processes p x
IsAbsent i (XWindow p) x = IsLackingPart i part.Processes p x
IsAbsent i (XRound m) x = IsLackingPart i part.Messages m x
IsAbsent i (XCycle ps) x = IsLackingProcess i ps x
IsAbsent i (XLoad n a b) x = IsLackingPart i part.Nodes n x
IsAbsent i (XFrame m) x = IsLackingPart i part.Messages m x
IsAbsent i (XFrames n a b) x = IsLackingPart i part.Nodes n x
IsAbsent i (XChannel k n a b) x = IsHalfLacking i n k x
IsAbsent i (XLate m r) x = IsLackingPart i part.Messages m x
IsAbsent i (XSilent u v) x = IsLackingPart i part.Nodes (first_absent (length i.nodes) u v) x
IsAbsent i (XMirror m) x = IsLackingPart i part.Messages m x
