-- What hangs on what: the links, the messages and the processes of a process or a node, as rising lists of their indices.
use Rattle.std.specs.Prelude.{ℕ, Bool, List, length, filter, ◌==◌}
use Rattle.std.specs.List.{list_any, range_with_len}
use Rattle.ttp_model.specs.Instance.{Instance, link_at, message_at, node_of, source_of}

-- the indices below a count that a test picks, rising
abbrev pub indices : (ℕ → Bool) → ℕ → List ℕ
indices test count = filter test (range_with_len 0 count)

-- whether a link leads from a process
abbrev pub leads_from : Instance → ℕ → ℕ → Bool
leads_from i p l = (link_at i l).before == p

-- whether it leads to a process
abbrev pub leads_to : Instance → ℕ → ℕ → Bool
leads_to i p l = (link_at i l).after == p

-- whether a process sends a message
abbrev pub is_sent_by : Instance → ℕ → ℕ → Bool
is_sent_by i p m = (message_at i m).sender == p

-- whether a process receives it
abbrev pub is_received_by : Instance → ℕ → ℕ → Bool
is_received_by i q m = list_any (λ (r : ℕ). r == q) (message_at i m).receivers

-- whether a process is on a node
abbrev pub is_process_of : Instance → ℕ → ℕ → Bool
is_process_of i n p = node_of i p == n

-- whether a node sends a message
abbrev pub is_message_of : Instance → ℕ → ℕ → Bool
is_message_of i n m = source_of i m == n

-- the links that lead from a process
abbrev pub links_from : Instance → ℕ → List ℕ
links_from i p = indices (leads_from i p) (length i.links)

-- the links that lead to a process
abbrev pub links_to : Instance → ℕ → List ℕ
links_to i p = indices (leads_to i p) (length i.links)

-- the messages that a process sends
abbrev pub sent_by : Instance → ℕ → List ℕ
sent_by i p = indices (is_sent_by i p) (length i.messages)

-- the messages that a process receives
abbrev pub received_by : Instance → ℕ → List ℕ
received_by i q = indices (is_received_by i q) (length i.messages)

-- the processes on a node
abbrev pub processes_on : Instance → ℕ → List ℕ
processes_on i n = indices (is_process_of i n) (length i.processes)

-- the messages that a node sends
abbrev pub messages_of : Instance → ℕ → List ℕ
messages_of i n = indices (is_message_of i n) (length i.messages)
