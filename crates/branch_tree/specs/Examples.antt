-- Complete choices of a small worked example.
use Rattle.std.specs.Prelude.{ℕ, [], ◌∷◌, Some}
use Rattle.tt_choice.specs.Precedence.{nothing_before}
use Rattle.tt_choice.specs.Choice.{Choice}

-- of the example with one message: A before B, with their only capacities, and the message in this round on the only channel
abbrev pub one_message_in : ℕ → Choice
one_message_in round = record {
  prefix = 0 ∷ 1 ∷ [];
  fixed = Some 2 ∷ Some 0 ∷ [];
  before = nothing_before 2;
  unordered = 0;
  lo = round ∷ [];
  hi = round ∷ [];
  channels = Some 0 ∷ [];
  kept = [];
}
