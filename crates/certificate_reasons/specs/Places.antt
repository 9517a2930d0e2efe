-- Which kind of line has to stand at a place of a certificate's text. Own profile.
use Rattle.std.specs.Prelude.{ℕ, ◌-◌, ◌==◌, List, [], ◌∷◌, ◌++◌, if◌then◌else◌, Option, None, Some, take}
use Rattle.std.specs.List.{fold}
use Rattle.line_text.specs.Numbers.{number_word}
use Rattle.line_text.specs.Parts.{after_keyword, cut}
use Rattle.certificate.specs.declared.head.Head.TheVariants.{OfLeaf}
use Rattle.certificate.specs.Reading.{value_of}
use Rattle.certificate.specs.Words.{head_words}
use Rattle.certificate_reasons.specs.declared.places.LinePlace.{LinePlace}
use Rattle.certificate_reasons.specs.declared.places.LinePlace.TheVariants.{First, Low, Node, Step}
use Rattle.line_text.specs.TextLines.{text_lines}

-- the number behind a space
abbrev pub count_behind : Option (List ℕ × List ℕ) → ℕ
count_behind None = 0
count_behind (Some parts) = value_of (number_word parts.1)

-- how many steps the line of a leaf says that follow: its second number
abbrev pub count_in : Option (List ℕ) → ℕ
count_in None = 0
count_in (Some numbers) = count_behind (cut 32 numbers)

-- how the line of a leaf begins
abbrev pub leaf_front : List ℕ
leaf_front = (head_words (OfLeaf 0 0)).0 ++ 32 ∷ []

-- how many a line says; none where it isn't that of a leaf
abbrev pub steps_named : List ℕ → ℕ
steps_named line = count_in (after_keyword leaf_front line)

-- how many are due behind a line, where so many were due in front of it
abbrev pub due_behind : ℕ → List ℕ → ℕ
due_behind due line = if due == 0 then steps_named line else due - 1

-- how many are due behind lines
abbrev pub steps_due : List (List ℕ) → ℕ
steps_due lines = fold due_behind 0 lines

-- what has to stand in the line of this number, from 1, of a text whose lines before it are right
abbrev pub awaited_at : List ℕ → ℕ → LinePlace
awaited_at text number =
    if number == 1 then First
    else (if number == 2 then Low
    else (if steps_due (take (number - 1) (text_lines text)) == 0 then Node else Step))
