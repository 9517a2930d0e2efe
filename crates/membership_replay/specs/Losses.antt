-- Which losses can be, and why a cycle isn't replayed. Own profile.
use Rattle.std.specs.Prelude.{◌≢◌, ℕ, ◌<◌, ◌≤◌, List, length, slice_index_or}
use Rattle.ttp_model.specs.Lists.{EachBelow, IsFirstFailure}
use Rattle.medl_tables.specs.Medl.{Medl}
use Rattle.membership_replay.specs.declared.loss.Loss.{Loss}
use Rattle.membership_replay.specs.declared.fault.ReplayFault.{ReplayFault}
use Rattle.membership_replay.specs.declared.fault.ReplayFault.TheVariants.{TooFewNodes, WrongLoss, OutOfMemory}
use Rattle.membership_replay.specs.Trace.{row_at}

-- what is read past the end of the losses: no clause reads there
abbrev pub no_loss : Loss
no_loss = record { round = 0; slot = 0; receiver = 0 }

-- a loss is of a slot of the cycle, at a node that is there and isn't its sender
pub record IsLossOf (t : Medl) (loss : Loss) : Type 0 where
  pub round : loss.round < t.rounds
  pub slot : loss.slot < length t.rows
  pub receiver : loss.receiver < length t.rows
  pub other : loss.receiver ≢ (row_at t 0 loss.slot).sender

-- so it is of the loss of this index
abbrev pub IsLossAt : Medl → List Loss → ℕ → Type 0
IsLossAt t losses k = IsLossOf t (slice_index_or losses k no_loss)

-- a cycle can be replayed: there are three nodes at least, and each loss can be
pub record CanBeReplayed (t : Medl) (losses : List Loss) : Type 0 where
  pub nodes : 3 ≤ length t.rows
  pub losses_of : EachBelow (length losses) (IsLossAt t losses)

-- why it isn't: the nodes go first, then the first loss that can't be; want of memory comes only where it can be
abbrev pub IsFault : Medl → List Loss → ReplayFault → Type 0
IsFault t losses TooFewNodes = length t.rows < 3
IsFault t losses (WrongLoss k) = (3 ≤ length t.rows) × IsFirstFailure (length losses) (IsLossAt t losses) k
IsFault t losses OutOfMemory = CanBeReplayed t losses
