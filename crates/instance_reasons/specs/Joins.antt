-- Why links and messages are refused that join what they must not join. Own profile.
use Rattle.std.specs.Prelude.{◌≡◌, ◌≢◌, ℕ, List, length, slice_index}
use Rattle.ttp_model.specs.Instance.{Instance, link_at, message_at, node_of, source_of}
use Rattle.ttp_model.specs.Lists.{EachBelow, IsFirstFailure}
use Rattle.ttp_model.specs.Rules.{HasChannels}
use Rattle.ttp_model.specs.Names.{message_name, place_name, process_name, sender_name, source_name}
use Rattle.instance_reasons.specs.declared.joins.BothOfOne.{BothOfOne}
use Rattle.instance_reasons.specs.declared.joins.ReceiverThere.{ReceiverThere}
use Rattle.instance_reasons.specs.declared.joins.ReceiverTwice.{ReceiverTwice}
use Rattle.instance_reasons.specs.declared.joins.WrongLink.{WrongLink}
use Rattle.instance_reasons.specs.declared.joins.WrongLink.TheVariants.{Across, ToItself}

-- the first receiver of message m that is on its sender's node
pub record IsReceiverThere (i : Instance) (m : ℕ) (r : ReceiverThere) : Type 0 where
  pub message_is : r.message.now ≡ message_name i m
  pub sender_is : r.sender.now ≡ sender_name i m
  pub node_is : r.node.now ≡ source_name i m
  pub place : ℕ
  pub first : IsFirstFailure (length (message_at i m).receivers) (λ k. node_of i (slice_index (message_at i m).receivers k) ≢ source_of i m) place
  pub receiver_is : r.receiver.now ≡ process_name i (slice_index (message_at i m).receivers place)

-- link l is from a process to itself, or between two nodes
abbrev pub IsWrongLink : Instance → ℕ → WrongLink → Type 0
IsWrongLink i l (ToItself link process) =
    (link ≡ l) × (process.now ≡ process_name i (link_at i l).before) × ((link_at i l).before ≡ (link_at i l).after)
IsWrongLink i l (Across link before before_node after after_node) =
    (link ≡ l) × (before.now ≡ process_name i (link_at i l).before) × (before_node.now ≡ place_name i (link_at i l).before)
    × (after.now ≡ process_name i (link_at i l).after) × (after_node.now ≡ place_name i (link_at i l).after)
    × (node_of i (link_at i l).before ≢ node_of i (link_at i l).after)

-- the k-th number stands at no place before it
abbrev pub IsNewAt : List ℕ → ℕ → Type 0
IsNewAt xs k = EachBelow k (λ j. slice_index xs j ≢ slice_index xs k)

-- the first receiver of message m that stands before its place too
pub record IsReceiverTwice (i : Instance) (m : ℕ) (r : ReceiverTwice) : Type 0 where
  pub message_is : r.message.now ≡ message_name i m
  pub place : ℕ
  pub first : IsFirstFailure (length (message_at i m).receivers) (IsNewAt (message_at i m).receivers) place
  pub receiver_is : r.receiver.now ≡ process_name i (slice_index (message_at i m).receivers place)

-- message m is to be on both channels, and there is one
pub record IsBothOfOne (i : Instance) (m : ℕ) (r : BothOfOne) : Type 0 where
  pub message_is : r.message.now ≡ message_name i m
  pub wrong : ¬ HasChannels i m
