-- Which index each name states, as the code keeps it.
use Rattle.std.specs.Prelude.{option_map}
use Rattle.std.specs.HashMap.{get_by}
use Rattle.std.specs.Str.{bytes_eq}
use Rattle.rates_text.specs.declared.names.RatesNames.{RatesNames}
use Rattle.rates_text.specs.Kinds.{Index, cut_index}

-- what the names in an index state
abbrev pub index_by : RatesNames → Index
index_by names name = option_map cut_index (get_by (λ k. bytes_eq name k.now) names.first)
