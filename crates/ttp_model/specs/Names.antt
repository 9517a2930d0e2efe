-- What the parts of an instance are called, by their indices, and which index has a name.
use Rattle.std.specs.Prelude.{ℕ, List, [], map, Option, position, bytes_eq}
use Rattle.ttp_model.specs.declared.error.Part.{Part}
use Rattle.ttp_model.specs.declared.error.Part.TheVariants.{Nodes, Processes, Messages}
use Rattle.ttp_model.specs.Instance.{Instance, node_at, process_at, message_at, node_of, source_of}

-- the name of a node, of a process and of a message: no bytes where it isn't there
abbrev pub node_name : Instance → ℕ → List ℕ
node_name i n = (node_at i n).name

abbrev pub process_name : Instance → ℕ → List ℕ
process_name i p = (process_at i p).name

abbrev pub message_name : Instance → ℕ → List ℕ
message_name i m = (message_at i m).name

-- of the node that a process is on
abbrev pub place_name : Instance → ℕ → List ℕ
place_name i p = node_name i (node_of i p)

-- of the process that sends a message
abbrev pub sender_name : Instance → ℕ → List ℕ
sender_name i m = process_name i (message_at i m).sender

-- and of the node that it is sent from
abbrev pub source_name : Instance → ℕ → List ℕ
source_name i m = node_name i (source_of i m)

-- the names in a list of the instance, in its order; links have none
abbrev pub names_in : Instance → Part → List (List ℕ)
names_in i Nodes = map (λ n. n.name) i.nodes
names_in i Processes = map (λ p. p.name) i.processes
names_in i Messages = map (λ m. m.name) i.messages
names_in i _ = []

-- the first index that has a name in such a list
abbrev pub index_named : Instance → Part → List ℕ → Option ℕ
index_named i part name = position (λ n. bytes_eq n name) (names_in i part)
