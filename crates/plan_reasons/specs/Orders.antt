-- Which names of an order line are wrong. Own profile.
use Rattle.std.specs.Prelude.{ℕ, ◌==◌, Bool, not, List, bytes_eq, drop, Option, find, is_some, position}
use Rattle.std.specs.List.{count_by}
use Rattle.std.specs.Option.{option_map}
use Rattle.ttp_model.specs.declared.error.Part.TheVariants.{Nodes}
use Rattle.ttp_model.specs.Instance.{Instance}
use Rattle.ttp_model.specs.Names.{names_in, node_name}
use Rattle.plan_format.specs.Reading.{words_of}
use Rattle.plan_reasons.specs.declared.orders.TimesNamed.{TimesNamed}

-- the words of an order line behind its keyword
abbrev pub named_words : List ℕ → List (List ℕ)
named_words line = words_of (drop 6 line)

-- whether a word is no node's name
abbrev pub is_stranger : Instance → List ℕ → Bool
is_stranger i word = not (is_some (position (λ name. bytes_eq name word) (names_in i Nodes)))

-- the first word that is none, if there is one
abbrev pub first_stranger : Instance → List ℕ → Option (List ℕ)
first_stranger i line = find (is_stranger i) (named_words line)

-- how often a name stands there
abbrev pub times_named : List ℕ → List ℕ → ℕ
times_named line name = count_by (λ word. bytes_eq word name) (named_words line)

-- the first node that isn't named just once, if there is one
abbrev pub first_uneven : Instance → List ℕ → Option ℕ
first_uneven i line = position (λ name. not (times_named line name == 1)) (names_in i Nodes)

-- its name, and how often that stands there
abbrev pub uneven_of : Instance → List ℕ → Option (List ℕ × ℕ)
uneven_of i line = option_map (λ n. (node_name i n, times_named line (node_name i n))) (first_uneven i line)

abbrev pub seen_times : TimesNamed → List ℕ × ℕ
seen_times x = (x.node.now, x.times)
