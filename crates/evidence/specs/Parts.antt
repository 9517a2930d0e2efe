-- Which texts are parts of a text.
use Rattle.std.specs.Prelude.{◌≡◌, ℕ, List, ◌++◌}

-- this text is a part of that one
abbrev pub IsPartOf : List ℕ → List ℕ → Type 0
IsPartOf part text = (front : List ℕ) × (behind : List ℕ) × (text ≡ front ++ part ++ behind)
