-- A list grows piece by piece.
use Rattle.std.proofs.Common.{◌≡◌, ◌∙◌, ℕ, ◌+◌, ◌<◌, List, ◌++◌, ap, length, slice_index_or, take}
use Rattle.std.specs.List.{flat_map, range_with_len}
use Rattle.std.proofs.lemmas.List.{flat_map_more, take_more}
use Rattle.ttp_model.proofs.Ranges.{range_more}

-- by that of one number more
pub range_grows : {Y : Type 0} (before now next : List Y) (f : ℕ → List Y) (k : ℕ) → now ≡ before ++ flat_map f (range_with_len 0 k)
    → next ≡ now ++ f k → next ≡ before ++ flat_map f (range_with_len 0 (k + 1))
range_grows {Y} before now next f k is more =
    more ∙ (ap (λ (x : List Y). x ++ f k) is ∙ rw (range_more k) (flat_map_more f before (range_with_len 0 k) k))

-- by that of one element more
pub list_grows : {X Y : Type 0} (before now next : List Y) (f : X → List Y) (xs : List X) (k : ℕ) (d : X) → k < length xs
    → now ≡ before ++ flat_map f (take k xs) → next ≡ now ++ f (slice_index_or xs k d) → next ≡ before ++ flat_map f (take (k + 1) xs)
list_grows {X} {Y} before now next f xs k d inside is more =
    let x = slice_index_or xs k d in
    more ∙ (ap (λ (t : List Y). t ++ f x) is ∙ rw (take_more xs k d inside) (flat_map_more f before (take k xs) x))
