-- An element of a list that is made of another.
use Rattle.std.proofs.Common.{◌≡◌, ℕ, zero, suc, ◌<◌, List, [], ◌∷◌, length, map, get_or, arith, refl}

pub mapped_at : {X Y : Type 0} (g : X → Y) (xs : List X) (k : ℕ) (d : X) (e : Y) → k < length xs → get_or (map g xs) k e ≡ g (get_or xs k d)
mapped_at g [] k d e inside = absurd (omega (arith, inside))
mapped_at g (x ∷ xs) zero d e inside = refl
mapped_at g (x ∷ xs) (suc k) d e inside = mapped_at g xs k d e (omega (arith, inside))
