-- How large a certificate's tree may be (our own profile).
use Rattle.std.specs.Prelude.{ℕ, ◌+◌, ◌-◌, ◌*◌, ◌/◌}
use Rattle.ttp_model.specs.Limits.{most_nodes, most_processes, most_messages}

-- the pairs of processes
abbrev pub most_pairs : ℕ
most_pairs = most_processes * (most_processes - 1) / 2

-- how often the rounds of a message can be halved until one is left: a million of them are possible
abbrev pub most_halvings : ℕ
most_halvings = 20

-- the branches above any node: one for each place of the slot order, for each capacity and for each pair, and for each message
-- as many as its rounds can be halved, and one for its channel
abbrev pub most_branches_above : ℕ
most_branches_above = most_nodes + most_nodes + most_pairs + most_messages * most_halvings + most_messages

-- the bytes of a text that is taken of a reader
abbrev pub most_text_bytes : ℕ
most_text_bytes = 268435456
