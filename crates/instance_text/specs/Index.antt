-- Which index each name states, as the code keeps it: in 32 bits.
use Rattle.std.specs.Prelude.{ℕ, ◌-◌, ◌^◌, min, List, option_map}
use Rattle.std.specs.HashMap.{get_by}
use Rattle.std.specs.Str.{bytes_eq}
use Rattle.instance_text.specs.declared.names.Names.{Names}
use Rattle.instance_text.specs.Kinds.{Index, index_in}

-- an index in 32 bits: from 4,294,967,295 on, more than any instance has, it is that number
abbrev pub cut_index : ℕ → ℕ
cut_index index = min index (2 ^ 32 - 1)

-- a name states the index of the first of that name
abbrev pub cut_index_in : List (List ℕ) → Index
cut_index_in names name = option_map cut_index (index_in names name)

-- what the names in an index state
abbrev pub index_by : Names → Index
index_by names name = option_map cut_index (get_by (λ k. bytes_eq name k.now) names.first)
