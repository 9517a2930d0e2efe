-- The stretches of lists that share them. Only private contracts ask for it.
use Rattle.std.specs.Prelude.{◌≡◌, ℕ, List, length}
use Rattle.std.specs.List.{AllByRecursion}

abbrev pub stretch_length : ℕ
stretch_length = 64

-- each stretch has just so many items
abbrev pub AreWhole : {A B : Type 0} → (A → List B) → List A → Type 0
AreWhole items stretches = AllByRecursion (λ stretch. length (items stretch) ≡ stretch_length) stretches
