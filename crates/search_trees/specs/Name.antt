-- Names of the nodes of a tree: the way to each from the root. Own profile.
use Rattle.std.specs.Prelude.{ℕ, List, [], ◌∷◌, ◌++◌, map}
use Rattle.std.specs.List.{range_with_len}

-- which child is taken at each branch
abbrev pub Name : Type 0
Name = List ℕ

abbrev pub root_name : Name
root_name = []

-- the child of a number, from 0
abbrev pub child_name : Name → ℕ → Name
child_name name k = name ++ k ∷ []

-- so many children, rising
abbrev pub child_names : Name → ℕ → List Name
child_names name count = map (child_name name) (range_with_len 0 count)
