-- Small worked examples more: two nodes alike, and two messages of one round on two channels.
use Rattle.std.specs.Prelude.{[], ◌∷◌, codes, false}
use Rattle.ttp_model.specs.Instance.{Instance, instance_with}
use Rattle.ttp_model.specs.Worked.{plain_cluster, node_with, process_on, two_messages}
use Rattle.tt_choice.specs.Choice.{Choice}
use Rattle.tt_choice.specs.Branches.{root_choice, at_most, fix_channel}

-- two nodes that send nothing, with the same capacity, and a process on the first
abbrev pub two_silent : Instance
two_silent = instance_with plain_cluster
    (node_with (codes "A") 0 ∷ node_with (codes "B") 0 ∷ [])
    (process_on (codes "p") 0 3 ∷ [])
    []
    []

-- both messages are sent in round 0
abbrev pub in_one_round : Choice
in_one_round = at_most (at_most (root_choice (two_messages false)) 0 0) 1 0

-- on channel 0, or one of them on both channels
abbrev pub on_one_channel : Choice
on_one_channel = fix_channel (fix_channel in_one_round 0 0) 1 0

abbrev pub one_on_both : Choice
one_on_both = fix_channel in_one_round 0 2

-- in whatever round, the first on channel 1, or the second there, or the second there and the first on both
abbrev pub first_on_second : Choice
first_on_second = fix_channel (root_choice (two_messages false)) 0 1

abbrev pub next_on_second : Choice
next_on_second = fix_channel (root_choice (two_messages false)) 1 1

abbrev pub next_behind_both : Choice
next_behind_both = fix_channel next_on_second 0 2
