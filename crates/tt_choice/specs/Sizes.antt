-- How much of a choice is left to choose.
use Rattle.std.specs.Prelude.{ℕ, ◌+◌, ◌-◌, length, count_by, is_none}
use Rattle.std.specs.Int.Digits.{digits_of}
use Rattle.ttp_model.specs.Instance.{Instance}
use Rattle.ttp_model.specs.Totals.{total}
use Rattle.tt_choice.specs.Choice.{Choice, least_round, greatest_round, unordered_pairs}
pub use Rattle.tt_choice.specs.Kinds.{Halves}

-- how many binary digits a number has; none for 0
abbrev pub binary_digits : ℕ → ℕ
binary_digits n = length (digits_of 2 n)

-- how often the range of a message can be halved: the binary digits of how far it goes
abbrev pub range_size : Choice → ℕ → ℕ
range_size c m = binary_digits (greatest_round c m - least_round c m)

-- unplaced nodes, free capacities, pairs in neither order, the sizes of all ranges, and free channels
abbrev pub size_left : Instance → Choice → ℕ
size_left i c =
    (length i.nodes - length c.prefix) + count_by is_none c.fixed + unordered_pairs i c
    + total (range_size c) (length i.messages) + count_by is_none c.channels
