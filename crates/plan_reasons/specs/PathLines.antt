-- What is told of the chain that makes the path bound: names in place of indices, and all ticks. Own profile.
use Rattle.std.specs.Prelude.{◌≡◌, ℕ, ◌+◌, ◌-◌, ◌<◌, ◌≤◌, List, Option, None, Some}
use Rattle.ttp_model.specs.Chains.{IsPathBound, least_transfer}
use Rattle.ttp_model.specs.Instance.{Instance, source_of}
use Rattle.ttp_model.specs.Names.{message_name, source_name}
use Rattle.sentences.specs.Lists.{AreTold}
use Rattle.plan_reasons.specs.Runs.{IsRunLine}
use Rattle.plan_reasons.specs.declared.runs.StartCause.{StartCause}
use Rattle.plan_reasons.specs.declared.runs.StartCause.TheVariants.{Arrival, Behind, CouldStart, Link, Release}
use Rattle.plan_reasons.specs.declared.path_parts.ChainPart.{ChainPart}
use Rattle.plan_reasons.specs.declared.path_lines.PathChain.{PathChain}
use Rattle.plan_reasons.specs.declared.path_lines.PathPart.{PathPart}
use Rattle.plan_reasons.specs.declared.path_lines.Transfer.{Transfer}
use Rattle.plan_reasons.specs.PathChains.{IsChain}

-- message m is there at this tick, as many ticks after its sender as it takes at least
pub record IsTransfer (i : Instance) (m until : ℕ) (x : Transfer) : Type 0 where
  pub until_is : x.until ≡ until
  pub from_is : x.from ≡ until - x.ticks
  pub message_is : x.message.now ≡ message_name i m
  pub node_is : x.node.now ≡ source_name i m
  pub ticks_are : x.ticks ≡ least_transfer i (source_of i m)

-- the message that a process waits for, where it is one
abbrev pub IsAbove : Instance → ℕ → StartCause → Option Transfer → Type 0
IsAbove i from Release None = Unit {0}
IsAbove i from (Link l) None = Unit {0}
IsAbove i from (Behind q) None = Unit {0}
IsAbove i from (CouldStart time) None = Unit {0}
IsAbove i from (Arrival m) (Some x) = IsTransfer i m from x
IsAbove i from _ _ = ⊥

-- what is told of a part
pub record IsPathPart (i : Instance) (part : ChainPart) (x : PathPart) : Type 0 where
  pub transfer_is : IsAbove i part.from part.cause x.transfer
  pub run_is : IsRunLine i part.process part.from part.until part.cause x.run

-- by how much a bound is past the horizon: by some, where it is
abbrev pub IsPast : ℕ → ℕ → Option ℕ → Type 0
IsPast bound horizon None = bound ≤ horizon
IsPast bound horizon (Some by) = (0 < by) × (horizon + by ≡ bound)

-- Why no plan ends before the path bound: each part of the chain that adds up to it.
pub record IsPathChain (i : Instance) (r : PathChain) : Type 0 where
  pub bound_is : IsPathBound i r.bound
  pub horizon_is : r.horizon ≡ i.cluster.horizon
  pub past_is : IsPast r.bound r.horizon r.past
  pub chain : List ChainPart
  pub is_chain : IsChain i chain
  pub parts_are : AreTold (IsPathPart i) chain r.parts.items
