-- How large the parts of an instance may be (our own profile). Times are ticks.
use Rattle.std.specs.Prelude.{ℕ, ◌+◌, ◌*◌}

-- the nodes, processes, links and messages of an instance
abbrev pub most_nodes : ℕ
most_nodes = 32

abbrev pub most_processes : ℕ
most_processes = 256

abbrev pub most_links : ℕ
most_links = 1024

abbrev pub most_messages : ℕ
most_messages = 512

-- the capacities that a node's slot can be given
abbrev pub most_capacities : ℕ
most_capacities = 8

-- the bytes of a name
abbrev pub most_name_bytes : ℕ
most_name_bytes = 32

-- the horizon, a worst-case execution time, a release or a deadline
abbrev pub most_ticks : ℕ
most_ticks = 1000000

-- the precision, a lead, a trail, or a copy out of or into a controller
abbrev pub most_bus_ticks : ℕ
most_bus_ticks = 10000

-- a frame beside its bytes
abbrev pub most_head : ℕ
most_head = 10000

-- a byte of a frame
abbrev pub most_per_byte : ℕ
most_per_byte = 1000

-- the bytes of a capacity or of a message
abbrev pub most_bytes : ℕ
most_bytes = 1000

-- the channels of a cluster
abbrev pub most_channels : ℕ
most_channels = 2

-- what stands in a plan for both channels
abbrev pub both_channels : ℕ
both_channels = 2

-- a slot: the frame between lead and trail
abbrev pub most_duration : ℕ
most_duration = 2 * most_bus_ticks + most_head + most_per_byte * most_bytes

-- a round: a slot for each node
abbrev pub most_round : ℕ
most_round = most_nodes * most_duration
