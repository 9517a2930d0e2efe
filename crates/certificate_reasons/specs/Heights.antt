-- How many levels each of several trees has that stand side by side. Own profile.
use Rattle.std.specs.Prelude.{ℕ, ◌+◌, max, List, [], ◌∷◌}
use Rattle.certificate.specs.Trees.{Trees, none, grow, levels}

-- the greatest of numbers, 0 where there are none
abbrev pub highest : List ℕ → ℕ
highest [] = 0
highest (h ∷ hs) = max h (highest hs)

-- of each tree
abbrev pub heights : Trees → List ℕ
heights none = []
heights (grow node below beside) = (1 + levels below) ∷ heights beside
