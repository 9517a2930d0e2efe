-- Which words have the form of a name, and what the lines of a plan's numbers name. Own profile.
use Rattle.std.specs.Prelude.{ℕ, List, length, slice_index, Bool, ◌&&◌, not, ◌==◌, nat_le, codes}
use Rattle.std.specs.List.{list_all}
use Rattle.ttp_model.specs.Limits.{most_name_bytes}
use Rattle.ttp_model.specs.Rules.{begins_name, continues_name}
use Rattle.ttp_model.specs.declared.error.Part.{Part}
use Rattle.ttp_model.specs.declared.error.Part.TheVariants.{Nodes, Processes, Messages}
use Rattle.plan_format.specs.declared.column.Column.{Column}
use Rattle.plan_format.specs.declared.column.Column.TheVariants.{Capacity, Start, Round, Channel}

-- Whether a word has the form of a name, as a test: a law says that it is the model's `IsName`.
abbrev pub is_name : List ℕ → Bool
is_name word =
    not (length word == 0) && nat_le (length word) most_name_bytes
    && begins_name (slice_index word 0) && list_all continues_name word

-- the list of the parts that such lines name
abbrev pub part_of : Column → Part
part_of Capacity = Nodes
part_of Start = Processes
part_of Round = Messages
part_of Channel = Messages

-- what each of them begins with
abbrev pub keyword_of : Column → List ℕ
keyword_of Capacity = codes "cap "
keyword_of Start = codes "start "
keyword_of Round = codes "round "
keyword_of Channel = codes "chan "
