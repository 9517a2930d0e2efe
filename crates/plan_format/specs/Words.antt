-- How private functions take a line's words one after another. Own profile.
use Rattle.std.specs.Prelude.{ℕ, List, [], ◌∷◌, Option, Some, None}
use Rattle.std.specs.Global.{Vec}
use Rattle.plan_format.specs.Reading.{words_of}

-- a word in front, and the words of the text behind it, if there is one
abbrev pub words_with : List ℕ → Option (List ℕ) → List (List ℕ)
words_with word None = word ∷ []
words_with word (Some more) = word ∷ words_of more

-- a vector, as a list
abbrev pub items_of : Option (Vec ℕ) → Option (List ℕ)
items_of None = None
items_of (Some v) = Some v.items
