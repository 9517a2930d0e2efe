-- What of a text stands at a place, and at a key of it. Own profile.
use Rattle.std.specs.Prelude.{ℕ, List, [], map, Option, None, Some}
use Rattle.toml.specs.Data.{Data, Items, Members, as_array, as_str, as_table, at, get_member}
use Rattle.instance_text.specs.declared.error.Key.{Key}
use Rattle.instance_text.specs.declared.error.Key.TheVariants as key
use Rattle.instance_text.specs.declared.error.Place.{Place}
use Rattle.instance_text.specs.declared.error.Place.TheVariants.{Top, Cluster, Node, Process, Link, Message}
use Rattle.instance_text.specs.Keys.{text_of}
use Rattle.instance_text.specs.Kinds.{list_of}

-- what is found in what was found
abbrev pub and_then : {A B : Type 0} → Option A → (A → Option B) → Option B
and_then None f = None
and_then (Some x) f = f x

-- the table at a key
abbrev pub table_under : Key → Members → Option Members
table_under k ms = and_then (get_member (text_of k) ms) as_table

-- the table of an index in the array at a key
abbrev pub entry_under : Key → ℕ → Members → Option Members
entry_under k n ms = and_then (and_then (get_member (text_of k) ms) (at n)) as_table

-- the table at a place
abbrev pub table_at : Place → Members → Option Members
table_at Top ms = Some ms
table_at Cluster ms = table_under key.Cluster ms
table_at (Node n) ms = entry_under key.Node n ms
table_at (Process p) ms = entry_under key.Process p ms
table_at (Link l) ms = entry_under key.Link l ms
table_at (Message m) ms = entry_under key.Message m ms

-- the value at a key there
abbrev pub value_at : Place → Key → Members → Option Data
value_at place k ms = and_then (table_at place ms) (get_member (text_of k))

-- a text that was found, or an empty one
abbrev pub text_or_none : Option (List ℕ) → List ℕ
text_or_none None = []
text_or_none (Some s) = s

-- the name in a table, or an empty one where it has none
abbrev pub name_of : Members → List ℕ
name_of ms = text_or_none (and_then (get_member (text_of key.Name) ms) as_str)

-- the name in a table that was found
abbrev pub name_of_found : Option Members → List ℕ
name_of_found None = []
name_of_found (Some ms) = name_of ms

-- the name at a place
abbrev pub name_at : Place → Members → List ℕ
name_at place ms = name_of_found (table_at place ms)

-- the name of an entry of an array
abbrev pub name_in : Data → List ℕ
name_in d = name_of_found (as_table d)

-- what is made of an array's items, or else of what is no array
abbrev pub of_items : {A : Type 0} → Option Items → A → (List Data → A) → A
of_items None other f = other
of_items (Some ds) other f = f (list_of ds)

-- the items of an array, or none of anything else
abbrev pub items_of : Data → List Data
items_of d = of_items (as_array d) [] (λ ds. ds)

abbrev pub items_found : Option Data → List Data
items_found None = []
items_found (Some d) = items_of d

-- the names of the entries of the array at a key
abbrev pub names_under : Key → Members → List (List ℕ)
names_under k ms = map name_in (items_found (get_member (text_of k) ms))
