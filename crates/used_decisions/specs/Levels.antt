-- A set of levels of a path: a flag for each level that there is room for.
use Rattle.std.specs.Prelude.{ℕ, List, slice_index_or, Bool, false}

-- a level is in a set
abbrev pub has_level : List Bool → ℕ → Bool
has_level levels level = slice_index_or levels level false
