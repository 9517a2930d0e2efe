-- Lists that are made round by round.
use Rattle.std.proofs.Common.{◌≡◌, ◌∙◌, ℕ, ◌+◌, List, [], ◌∷◌, ◌++◌, All, append_assoc, arith, ap}
use Rattle.std.specs.List.{flat_map, range_with_len}
use Rattle.std.proofs.lemmas.List.{flat_map_more}
use Rattle.std.proofs.lemmas.List.Elements.{All-append}
use Rattle.ttp_model.proofs.Ranges.{range_more}

-- the lists of one round more
pub flat_map-range_with_len_more : {X : Type 0} (f : ℕ → List X) (r : ℕ) → flat_map f (range_with_len 0 r) ++ f r ≡ flat_map f (range_with_len 0 (r + 1))
flat_map-range_with_len_more f r = rw (range_more r) (flat_map_more f [] (range_with_len 0 r) r)

-- what holds of each list's elements
pub All-flat_map : {X Y : Type 0} (P : Y → Type 0) (f : X → List Y) (xs : List X) → ((x : X) → All P (f x)) → All P (flat_map f xs)
All-flat_map P f [] each = λ k d inside. absurd (omega arith)
All-flat_map P f (x ∷ xs) each = All-append P (f x) (flat_map f xs) (each x) (All-flat_map P f xs each)

-- and behind a text that came first
pub append-flat_map-range_with_len_more : {X : Type 0} (before : List X) (f : ℕ → List X) (r : ℕ) → (before ++ flat_map f (range_with_len 0 r)) ++ f r ≡ before ++ flat_map f (range_with_len 0 (r + 1))
append-flat_map-range_with_len_more before f r =
    append_assoc before (flat_map f (range_with_len 0 r)) (f r) ∙ ap (λ x. before ++ x) (flat_map-range_with_len_more f r)
