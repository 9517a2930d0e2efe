-- Lists that tell other lists, item by item.
use Rattle.std.specs.Prelude.{List, [], ◌∷◌}

-- there are as many items, and each tells the one in its place
abbrev pub AreTold : {A B : Type 0} → (A → B → Type 0) → List A → List B → Type 0
AreTold Tells [] [] = Unit {0}
AreTold Tells [] (y ∷ ys) = ⊥
AreTold Tells (x ∷ xs) [] = ⊥
AreTold Tells (x ∷ xs) (y ∷ ys) = Tells x y × AreTold Tells xs ys
