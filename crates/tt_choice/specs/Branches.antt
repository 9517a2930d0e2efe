-- The choice in which nothing is chosen, and the choices that a branch leads to.
use Rattle.std.specs.Prelude.{◌≡◌, ℕ, ◌-◌, ◌==◌, List, [], length, map, replicate, if◌then◌else◌, Option, None, Some}
use Rattle.std.specs.List.{range_with_len}
use Rattle.ttp_model.specs.declared.step.Kind.{Kind}
use Rattle.ttp_model.specs.Instance.{Instance, message_at}
use Rattle.ttp_model.specs.Limits.{both_channels}
use Rattle.tt_choice.specs.Precedence.{nothing_before}
use Rattle.tt_choice.specs.Choice.{Choice, unordered_pairs}
pub use Rattle.tt_choice.specs.Changes.{place_next, fix_option, order_pair, at_most, at_least, fix_channel}
pub use Rattle.tt_choice.specs.Changes.{is_placed, IsUnplaced, unplaced, IsUnorderedPair, CutsRange, IsFreeChannel}
pub use Rattle.tt_choice.specs.Kinds.{Row, branch, IsOpen, children, child}

-- a message is on the only channel, or on both where it is to be; else none is fixed
abbrev pub root_channel : Instance → ℕ → Option ℕ
root_channel i m =
    if i.cluster.channels == 1 then Some 0
    else (if (message_at i m).both then Some both_channels else None)

-- nothing is chosen, each round below the horizon is possible, and of pairs so many are in neither
-- order
abbrev pub open_choice : Instance → ℕ → Choice
open_choice i unordered = record {
  prefix = [];
  fixed = replicate (length i.nodes) None;
  before = nothing_before (length i.processes);
  unordered = unordered;
  lo = replicate (length i.messages) 0;
  hi = replicate (length i.messages) (i.cluster.horizon - 1);
  channels = map (root_channel i) (range_with_len 0 (length i.messages));
  kept = [];
}

-- the choice in which nothing is chosen: all pairs of processes of one node are in neither order
abbrev pub root_choice : Instance → Choice
root_choice i = open_choice i (unordered_pairs i (open_choice i 0))

-- all children of a branch, in order
abbrev pub child_choices : Instance → Choice → Kind → List Choice
child_choices i c kind = map (child i c kind) (range_with_len 0 (children i c kind))

-- a branch is open, and has just so many children
pub record IsBranch (i : Instance) (c : Choice) (kind : Kind) (count : ℕ) : Type 0 where
  pub is_open : IsOpen i c kind
  pub just : count ≡ children i c kind
