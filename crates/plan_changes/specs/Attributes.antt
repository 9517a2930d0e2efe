-- What an instance says of each process whenever it runs: its node and how long it takes; and the lines of what is different. Own profile.
use Rattle.std.specs.Prelude.{ℕ, List, [], ◌++◌, Option, None, Some, bytes_eq, codes, decimal, if◌then◌else◌}
use Rattle.std.specs.List.{flat_map}
use Rattle.ttp_model.specs.Instance.{Instance, node_at, node_of, process_at}
use Rattle.ttp_model.specs.declared.error.Part.TheVariants.{Processes}
use Rattle.line_text.specs.Words.{spaced}
use Rattle.ttp_model.specs.Names.{names_in}
use Rattle.plan_changes.specs.declared.attributes.Attribute.{Attribute}
use Rattle.plan_changes.specs.declared.attributes.Attribute.TheVariants.{Node, Wcet}
use Rattle.plan_changes.specs.Planned.{Planned}
use Rattle.plan_changes.specs.Names.{names_of_either, place_in}

-- what its line begins with
abbrev pub attribute_keyword : Attribute → List ℕ
attribute_keyword Node = codes "node "
attribute_keyword Wcet = codes "wcet "

-- the word for it, of the process at a place: the name of its node, or its ticks; and - where there is no such process
abbrev pub word_at : Attribute → Instance → Option ℕ → List ℕ
word_at attribute i None = codes "-"
word_at Node i (Some p) = (node_at i (node_of i p)).name
word_at Wcet i (Some p) = decimal (process_at i p).wcet

-- of the process of a name
unfoldable pub attribute_word : Attribute → Planned → List ℕ → List ℕ
attribute_word attribute p name = word_at attribute p.instance (place_in (names_in p.instance Processes) name)

-- the line of a process with the old word and the new one
unfoldable pub attribute_line : Attribute → List ℕ → List ℕ → List ℕ → List ℕ
attribute_line attribute name old new = attribute_keyword attribute ++ name ++ spaced old ++ spaced new ++ codes "\n"

-- it, where they are different, and nothing where they are the same
unfoldable pub attribute_difference : Attribute → List ℕ → List ℕ → List ℕ → List ℕ
attribute_difference attribute name old new = if bytes_eq old new then [] else attribute_line attribute name old new

-- what is different of the processes of either, name by name
abbrev pub attributes_text : Planned → Planned → Attribute → List ℕ
attributes_text old new attribute =
    flat_map (λ name. attribute_difference attribute name (attribute_word attribute old name) (attribute_word attribute new name))
    (names_of_either (names_in old.instance Processes) (names_in new.instance Processes))
