-- The lines of a text, and how one is told. Own profile.
use Rattle.std.specs.Prelude.{ℕ, ◌-◌, ◌==◌, List, [], ◌∷◌, ◌++◌, codes, decimal, slice_index_or}
use Rattle.std.specs.List.{slice_split}
use Rattle.line_text.specs.Told.{told}

-- what stands between line ends
abbrev pub text_lines : List ℕ → List (List ℕ)
text_lines text = slice_split (λ b. b == 10) text

-- the line of this number, from 1; nothing where there is none
abbrev pub numbered_line : List ℕ → ℕ → List ℕ
numbered_line text number = slice_index_or (text_lines text) (number - 1) []

-- a line with its number, as much as is told of it
unfoldable pub empty_line : ℕ → List ℕ
empty_line number = codes "Line " ++ (decimal number ++ codes " is empty.\n")

unfoldable pub full_line : ℕ → List ℕ → List ℕ
full_line number line = codes "Line " ++ (decimal number ++ (codes " is: " ++ (told line ++ codes "\n")))

abbrev pub line_or_empty : ℕ → List ℕ → List ℕ
line_or_empty number [] = empty_line number
line_or_empty number (b ∷ bs) = full_line number (b ∷ bs)

-- the line of this number of a text, as it is told
abbrev pub line_words : List ℕ → ℕ → List ℕ
line_words text number = line_or_empty number (numbered_line text number)
