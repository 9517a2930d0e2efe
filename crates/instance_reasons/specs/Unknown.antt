-- Which key of a table isn't known, and which name. Own profile.
use Rattle.std.specs.Prelude.{ℕ, List, Bool, Option, None, Some, if◌then◌else◌, is_some, position}
use Rattle.std.specs.Str.{bytes_eq}
use Rattle.std.specs.List.{fold}
use Rattle.std.specs.Ordering.{is_lt, nat_cmp}
use Rattle.std.specs.Cmp.Lexicographic.{slice_cmp}
use Rattle.toml.specs.Data.{Data, string, Members, no_members, member, as_array}
use Rattle.instance_text.specs.declared.error.Key.{Key}
use Rattle.instance_text.specs.declared.error.Key.TheVariants as key
use Rattle.instance_text.specs.declared.error.Place.{Place}
use Rattle.instance_text.specs.declared.error.Place.TheVariants.{Top, Cluster, Node, Process, Link, Message}
use Rattle.instance_text.specs.Tables.{has_key, keys_at}
use Rattle.instance_reasons.specs.Tables.{and_then, of_items, table_at}

-- the first key of a table that isn't known, where this says which are: a table's keys stand in byte order
abbrev pub first_unknown : (List ℕ → Bool) → Members → Option (List ℕ)
first_unknown known no_members = None
first_unknown known (member text d ms) = if known text then first_unknown known ms else Some text

-- that of the table at a place
abbrev pub unknown_key : Place → Members → Option (List ℕ)
unknown_key place ms = and_then (table_at place ms) (first_unknown (has_key (keys_at place)))

-- the list of the top table whose entries are named at a place: a process names its node, and all else processes
abbrev pub list_named_at : Place → Key
list_named_at Top = key.Process
list_named_at Cluster = key.Process
list_named_at (Node n) = key.Process
list_named_at (Process p) = key.Node
list_named_at (Link l) = key.Process
list_named_at (Message m) = key.Process

-- the name is one of these
abbrev pub is_known : List (List ℕ) → List ℕ → Bool
is_known names text = is_some (position (bytes_eq text) names)

-- a name that isn't known, where this says which are
abbrev pub unless_has : (List ℕ → Bool) → List ℕ → Option (List ℕ)
unless_has known text = if known text then None else Some text

-- what stands as one
abbrev pub unknown_item : (List ℕ → Bool) → Data → Option (List ℕ)
unknown_item known (string s) = unless_has known s
unknown_item known _ = None

-- the first of two in byte order
abbrev pub earlier_text : List ℕ → List ℕ → List ℕ
earlier_text x y = if is_lt (slice_cmp nat_cmp y x) then y else x

abbrev pub earlier : Option (List ℕ) → Option (List ℕ) → Option (List ℕ)
earlier None y = y
earlier (Some x) None = Some x
earlier (Some x) (Some y) = Some (earlier_text x y)

-- the first of all in byte order that isn't known
abbrev pub earliest_unknown : (List ℕ → Bool) → List Data → Option (List ℕ)
earliest_unknown known ds = fold (λ first d. earlier first (unknown_item known d)) None ds

-- what a value, or a list, names that isn't known
abbrev pub unknown_name : (List ℕ → Bool) → Data → Option (List ℕ)
unknown_name known d = of_items (as_array d) (unknown_item known d) (earliest_unknown known)
