-- Which name is nearest to a word that isn't there. Own profile.
use Rattle.std.specs.Prelude.{ℕ, List, length, nat_eq, nat_le, nat_lt, Bool, ◌&&◌, Option, None, Some}
use Rattle.std.specs.List.{find}
use Rattle.std.specs.Str.{chars}
use Rattle.strsim.specs.Edits.{levenshtein_row}

-- a longer text is near none: a name has 32 bytes at most, and two characters more have 8
abbrev pub most_near : ℕ
most_near = 40

-- how many characters have to be put in, left out or changed
abbrev pub distance : List ℕ → List ℕ → ℕ
distance word name = levenshtein_row nat_eq (chars word) (chars name) (length (chars name))

-- a text that can be near another
abbrev pub is_short : List ℕ → Bool
is_short text = nat_lt 0 (length text) && nat_le (length text) most_near

-- the name is no further away than so
abbrev pub is_near : List ℕ → ℕ → List ℕ → Bool
is_near word most name = is_short word && is_short name && nat_le (distance word name) most

-- the first of two
abbrev pub first_of : Option (List ℕ) → Option (List ℕ) → Option (List ℕ)
first_of (Some x) y = Some x
first_of None y = y

-- the first name that is one character away, or else the first that is two
abbrev pub nearest : List ℕ → List (List ℕ) → Option (List ℕ)
nearest word names = first_of (find (is_near word 1) names) (find (is_near word 2) names)
