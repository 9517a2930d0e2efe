-- Lists in which no name stands twice. Own profile.
use Rattle.std.specs.Prelude.{◌≢◌, ℕ, ◌<◌, List, length, slice_index_or}
use Rattle.search_trees.specs.Name.{Name, root_name}

abbrev pub NoneTwice : List Name → Type 0
NoneTwice names = (j k : ℕ) → j < k → k < length names → slice_index_or names j root_name ≢ slice_index_or names k root_name
