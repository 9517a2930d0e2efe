-- When two words name one file, as far as the words tell.
use Rattle.std.specs.Prelude.{◌≡◌, ◌==◌, ℕ, List, [], ◌∷◌, Bool, true, false, filter, not}
use Rattle.std.specs.List.{slice_split}

-- whether a part of a name leads anywhere: it isn't empty, and not a single dot
abbrev pub is_part : List ℕ → Bool
is_part [] = false
is_part (c ∷ []) = not (c == 46)
is_part (c ∷ d ∷ rest) = true

-- the parts of a name between slashes that lead anywhere
abbrev pub parts : List ℕ → List (List ℕ)
parts name = filter is_part (slice_split (λ c. c == 47) name)

-- whether a name begins at the root
abbrev pub is_rooted : List ℕ → Bool
is_rooted [] = false
is_rooted (c ∷ rest) = c == 47

-- two words name one file: both begin at the root or neither does, and their parts are the same
abbrev pub NameOneFile : List ℕ → List ℕ → Type 0
NameOneFile a b = (is_rooted a ≡ is_rooted b) × (parts a ≡ parts b)

-- they don't
abbrev pub IsOtherFile : List ℕ → List ℕ → Type 0
IsOtherFile a b = NameOneFile a b → ⊥
