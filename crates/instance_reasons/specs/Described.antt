-- How large an instance is, and which messages fit into no frame; in bytes. Own profile.
use Rattle.std.specs.Prelude.{◌≡◌, ℕ, Bool, List, filter, length, nat_le, not}
use Rattle.std.specs.List.{list_any, range_with_len}
use Rattle.ttp_model.specs.Instance.{Instance, message_at, node_at, source_of}
use Rattle.ttp_model.specs.Names.{message_name, source_name}
use Rattle.sentences.specs.Lists.{AreTold}
use Rattle.instance_reasons.specs.declared.described.LargeMessage.{LargeMessage}
use Rattle.instance_reasons.specs.declared.described.Sizes.{Sizes}

-- some capacity has room for so many bytes
abbrev pub has_room : ℕ → List ℕ → Bool
has_room bytes capacities = list_any (λ c. nat_le bytes c) capacities

-- no capacity of its sender's node has room for message m
abbrev pub is_large : Instance → ℕ → Bool
is_large i m = not (has_room (message_at i m).bytes (node_at i (source_of i m)).capacities)

-- the messages that are so large, in the instance's order
abbrev pub large_messages : Instance → List ℕ
large_messages i = filter (is_large i) (range_with_len 0 (length i.messages))

-- what is told of one
pub record IsLargeMessage (i : Instance) (m : ℕ) (x : LargeMessage) : Type 0 where
  pub message_is : x.message.now ≡ message_name i m
  pub bytes_are : x.bytes ≡ (message_at i m).bytes
  pub node_is : x.node.now ≡ source_name i m
  pub offered_are : x.offered.now ≡ (node_at i (source_of i m)).capacities

-- what is told of an instance
pub record AreSizes (i : Instance) (r : Sizes) : Type 0 where
  pub nodes_are : r.nodes ≡ length i.nodes
  pub processes_are : r.processes ≡ length i.processes
  pub links_are : r.links ≡ length i.links
  pub messages_are : r.messages ≡ length i.messages
  pub too_large_are : AreTold (IsLargeMessage i) (large_messages i) r.too_large.items
