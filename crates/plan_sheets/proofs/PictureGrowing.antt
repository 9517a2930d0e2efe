-- A text grows piece by piece.
use Rattle.std.proofs.Common.{◌≡◌, ◌∙◌, ℕ, ◌+◌, ◌<◌, List, ◌++◌, length, slice_index, take, ap}
use Rattle.std.specs.List.{flat_map, range_with_len}
use Rattle.std.proofs.lemmas.List.{flat_map_more, take_more}
use Rattle.tt_layout.proofs.Ranges.{append-flat_map-range_with_len_more}

-- by the piece of one number more
pub range_grows : (before now next : List ℕ) (f : ℕ → List ℕ) (k : ℕ) → now ≡ before ++ flat_map f (range_with_len 0 k) → next ≡ now ++ f k → next ≡ before ++ flat_map f (range_with_len 0 (k + 1))
range_grows before now next f k is more = more ∙ (ap (λ x. x ++ f k) is ∙ append-flat_map-range_with_len_more before f k)

-- by that of one element more
pub list_grows : (before now next : List ℕ) (f : ℕ → List ℕ) (xs : List ℕ) (k : ℕ) → k < length xs → now ≡ before ++ flat_map f (take k xs) → next ≡ now ++ f (slice_index xs k) → next ≡ before ++ flat_map f (take (k + 1) xs)
list_grows before now next f xs k inside is more =
    more ∙ (ap (λ x. x ++ f (slice_index xs k)) is ∙ rw (take_more xs k 0 inside) (flat_map_more f before (take k xs) (slice_index xs k)))
