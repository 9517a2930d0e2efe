-- Where a name stands among others, and which names either of two lists has. Own profile.
use Rattle.std.specs.Prelude.{ℕ, List, ◌++◌, Option, bytes_eq, filter, is_none, position}

-- the place of a name among these: none where it isn't one of them
abbrev pub place_in : List (List ℕ) → List ℕ → Option ℕ
place_in names name = position (λ n. bytes_eq n name) names

-- the names that aren't among these
abbrev pub gone_from : List (List ℕ) → List (List ℕ) → List (List ℕ)
gone_from new names = filter (λ name. is_none (place_in new name)) names

-- the names of either: those of the new list in its order, and then in the old one's order those that are gone
abbrev pub names_of_either : List (List ℕ) → List (List ℕ) → List (List ℕ)
names_of_either old new = new ++ gone_from new old
