-- The words of a line, each after one space. Own profile.
use Rattle.std.specs.Prelude.{ℕ, List, ◌∷◌}
use Rattle.std.specs.List.{flat_map}

-- a word with the space before it
unfoldable pub spaced : List ℕ → List ℕ
spaced word = 32 ∷ word

-- words one after another
abbrev pub spaced_words : List (List ℕ) → List ℕ
spaced_words words = flat_map spaced words
