-- Trees side by side with what they are high at most. Only private contracts ask for it.
use Rattle.std.specs.Prelude.{◌≡◌, ℕ, ◌+◌, ◌≤◌, List, [], ◌∷◌, ◌++◌, All, length, reverse}
use Rattle.certificate.specs.Trees.{Trees, none, grow, children, AreTrees, levels}

-- As many trees as numbers, each node of which has just its children; no more nodes of a tree stand one below another than its
-- number.
abbrev pub HaveHeights : List ℕ → Trees → Type 0
HaveHeights [] none = Unit {0}
HaveHeights [] (grow node below beside) = ⊥
HaveHeights (height ∷ heights) none = ⊥
HaveHeights (height ∷ heights) (grow node below beside) =
    AreTrees (children node) below × (1 + levels below ≤ height) × HaveHeights heights beside

-- so many heights were taken off, the last first, none of them above a number
pub record AreTaken (count most : ℕ) (before after : List ℕ) : Type 0 where
  pub taken : List ℕ
  pub are : reverse before ≡ taken ++ reverse after
  pub count_is : length taken ≡ count
  pub low : All (λ height. height ≤ most) taken
