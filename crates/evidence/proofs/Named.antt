-- The first process of a text is on the node that it names.
use Rattle.std.proofs.Common.{◌≡◌, ℕ, ◌<◌, Bool, true, false, cond, List, [], ◌∷◌, length, get_or, Option, Some, None, Result, Ok, Err, IfOk, arith, refl, sym, ap, ◌∙◌}
use Rattle.std.specs.Prelude.{codes}
use Rattle.std.specs.Str.{bytes_eq}
use Rattle.std.proofs.lemmas.List.{get_or-map, length-map}
use Rattle.std.proofs.lemmas.List.Quantifiers.{position-Some}
use Rattle.std.proofs.lemmas.Slice.Eq.{bytes_eq-Decides}
use Rattle.toml.specs.Data.{Members, get_member, string}
use Rattle.ttp_model.specs.declared.parts.Node.{Node}
use Rattle.ttp_model.specs.declared.parts.Process.{Process}
use Rattle.ttp_model.specs.declared.parts.Cluster.{Cluster}
use Rattle.ttp_model.specs.declared.parts.Link.{Link}
use Rattle.ttp_model.specs.declared.parts.Message.{Message}
use Rattle.ttp_model.specs.Instance.{Instance, instance_with, no_node, node_at, node_of}
use Rattle.instance_text.specs.declared.error.Key.{Key}
use Rattle.instance_text.specs.declared.error.Key.TheVariants as key
use Rattle.instance_text.specs.declared.error.Place.{Place}
use Rattle.instance_text.specs.declared.error.Place.TheVariants as at
use Rattle.instance_text.specs.declared.error.TextError.{TextError}
use Rattle.instance_text.specs.Kinds.{Index, Stated, ◌>>=◌, each, found_index, index_in}
use Rattle.instance_text.specs.declared.error.TextError.TheVariants.{UnknownKey}
use Rattle.instance_text.specs.Faults.{IsDocument, States}
use Rattle.instance_text.specs.Rows.{KeyRow, needed, number, node as a_node, optional, rows, text}
use Rattle.instance_text.specs.Tables.{at_row, has_only, in_turn, keys_at}
use Rattle.instance_text.specs.Stated.{Tables, cluster_of, knows_nodes, links_of, messages_of, node_names, nodes_of, process_names, process_of, processes_of, stated, stated_tables, the_process}

-- a step of reading that comes to a value had one before it
bind_ok : {A B : Type 0} (part : Stated A) (next : A → Stated B) (y : B) → (part >>= next) ≡ Ok y → (x : A) × (part ≡ Ok x) × (next x ≡ Ok y)
bind_ok (Ok x) next y e = (x, refl, e)
bind_ok (Err f) next y e = absurd cc

found_ok : (place : Place) (key : Key) (found : Option ℕ) (index : ℕ) → found_index place key found ≡ Ok index → found ≡ Some index
found_ok place key (Some k) index e = cc
found_ok place key None index e = absurd cc

known_keys : {A : Type 0} (known : Bool) (part : Stated A) (fault : TextError) (x : A) → cond known part (Err fault) ≡ Ok x → part ≡ Ok x
known_keys true part fault x e = e
known_keys false part fault x e = absurd cc

first_item : {A B : Type 0} (read : ℕ → A → Stated B) (x : A) (xs : List A) (ys : List B) → each read 0 (x ∷ xs) ≡ Ok ys
    → (y : B) × (rest : List B) × (read 0 x ≡ Ok y) × (ys ≡ y ∷ rest)
first_item read x xs ys e =
    let one = bind_ok (read 0 x) _ ys e in
    let more = bind_ok (each read 1 xs) _ ys one.2 in
    (one.0, more.0, one.1, cc)

-- what the row of a process's node says, where this is its index
found_node : (index : Index) (process : Members) (name : List ℕ) (n m : ℕ) → get_member (codes "node") process ≡ Some (string name)
    → at_row (at.Process 0) (knows_nodes index) process (needed key.Node a_node) ≡ Ok n → n ≡ m → index name ≡ Some m
found_node index process name n m states reads same = found_ok (at.Process 0) key.Node (index name) m (rw (states, same) at reads)

-- the node that a process states is the one of that name
placed : (index : Index) (process : Members) (name : List ℕ) (p : Process) → get_member (codes "node") process ≡ Some (string name)
    → process_of index 0 process ≡ Ok p → index name ≡ Some p.node
placed index process name p states reads =
    let known = knows_nodes index in
    let row = λ (r : KeyRow). at_row (at.Process 0) known process r in
    let whole = known_keys (has_only (keys_at (at.Process 0)) process) (in_turn (at.Process 0) known process (rows (at.Process 0)) the_process)
    (UnknownKey (at.Process 0)) p reads in
    let named = bind_ok (row (needed key.Name text)) _ p whole in
    let node = bind_ok (row (needed key.Node a_node)) _ p named.2 in
    let time = bind_ok (row (needed key.Wcet number)) _ p node.2 in
    let release = bind_ok (row (optional key.Release number 0)) _ p time.2 in
    let deadline = bind_ok (row (optional key.Deadline number 1000000)) _ p release.2 in
    let made : the_process named.0 node.0 time.0 release.0 deadline.0 ≡ p = (let is = deadline.2 in cc) in
    let same : node.0 ≡ p.node = ap (λ (q : Process). q.node) made in
    found_node index process name node.0 p.node states node.1 same

on_named_node : (nodes : List Node) (processes : List Process) (tables : List Members) (process : Members) (others : List Members) (name : List ℕ)
    → tables ≡ process ∷ others → get_member (codes "node") process ≡ Some (string name)
    → processes_of (index_in (node_names nodes)) tables ≡ Ok processes
    → (cluster : Cluster) (links : List Link) (messages : List Message) (i : Instance) → instance_with cluster nodes processes links messages ≡ i
    → (node_at i (node_of i 0)).name ≡ name
on_named_node nodes processes tables process others name first states reads cluster links messages i same =
    let one = first_item (process_of (index_in (node_names nodes))) process others processes (rw first at reads) in
    let found = placed (index_in (node_names nodes)) process name one.0 states one.2 in
    let place = position-Some (bytes_eq name) (node_names nodes) one.0.node [] found in
    let inside : one.0.node < length nodes = omega (arith, place.0, length-map nodes (λ (n : Node). n.name)) in
    let named : name ≡ get_or (node_names nodes) one.0.node [] = (bytes_eq-Decides name (get_or (node_names nodes) one.0.node [])).0 place.1 in
    rw (← same, one.3) (sym (named ∙ get_or-map (λ (n : Node). n.name) nodes one.0.node no_node [] inside))

first_process : (table : Members) (tables : Tables) (process : Members) (others : List Members) (name : List ℕ) (i : Instance)
    → stated_tables table ≡ Ok tables → tables.processes ≡ process ∷ others → get_member (codes "node") process ≡ Some (string name)
    → stated table ≡ Ok i → (node_at i (node_of i 0)).name ≡ name
first_process table tables process others name i reads_tables first states reads =
    let cluster = bind_ok (cluster_of tables.cluster) _ i (rw reads_tables at reads) in
    let nodes = bind_ok (nodes_of tables.nodes) _ i cluster.2 in
    let processes = bind_ok (processes_of (index_in (node_names nodes.0)) tables.processes) _ i nodes.2 in
    let links = bind_ok (links_of (index_in (process_names processes.0)) tables.links) _ i processes.2 in
    let messages = bind_ok (messages_of (index_in (process_names processes.0)) tables.messages) _ i links.2 in
    let same : instance_with cluster.0 nodes.0 processes.0 links.0 messages.0 ≡ i = (let is = messages.2 in cc) in
    on_named_node nodes.0 processes.0 tables.processes process others name first states processes.1 cluster.0 links.0 messages.0 i same

pub node_named : (bytes : List ℕ) (table : Members) (tables : Tables) (process : Members) (others : List Members) (name : List ℕ)
    (result : Result Instance TextError) → IsDocument bytes table → stated_tables table ≡ Ok tables → tables.processes ≡ process ∷ others
    → get_member (codes "node") process ≡ Some (string name) → IfOk result (λ i. States bytes (Ok i))
    → IfOk result (λ i. (node_at i (node_of i 0)).name ≡ name)
node_named bytes table tables process others name (Ok i) document reads first states given =
    let one = given.document.parsed in
    let other = document.parsed in
    let stated_is = given.reading in
    first_process table tables process others name i reads first states cc
node_named bytes table tables process others name (Err e) document reads first states given = tt
