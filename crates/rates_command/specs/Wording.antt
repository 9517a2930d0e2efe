-- What a line by names says.
use Rattle.std.specs.Prelude.{ℕ, List, ◌++◌}
use Rattle.std.specs.List.{flat_map}
use Rattle.ttp_model.specs.Parts.{instance_of}
use Rattle.rates_command.specs.Lines.{named_place, spaced_name}
use Rattle.rates_command.specs.declared.named.NamedWords.{NamedWords}
use Rattle.rates_command.specs.declared.named.NamedWords.TheVariants as line

-- the whole line
abbrev pub named_text : NamedWords → List ℕ
named_text (line.Alone words) = words.now
named_text (line.OfList words list) = words.now ++ list.now
named_text (line.At words place) = words.now ++ named_place (instance_of place.0.now) place.1
named_text (line.All words names) = words.now ++ flat_map (spaced_name (instance_of names.0.now)) names.1.now
