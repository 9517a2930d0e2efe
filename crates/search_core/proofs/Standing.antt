-- Choices that stand at names, while pieces are added.
use Rattle.std.proofs.Common.{ℕ, zero, suc, ◌<◌, List, [], ◌∷◌, length, get_or, set, sym, subst, inl, inr, arith}
use Rattle.std.specs.List.{flat_map, Contains}
use Rattle.std.proofs.lemmas.List.{get_or-set_same}
use Rattle.std.proofs.lemmas.List.Elements.{Contains-append_cases, Contains-append_left, Contains-append_right}
use Rattle.search_trees.specs.declared.piece.Piece.{Piece}
use Rattle.search_core.specs.World.{Worker}

-- the pieces of workers
abbrev pub pieces_of : Worker → List Piece
pieces_of s = s.pieces

pub pieces_at : (xs : List Worker) (w : ℕ) (d : Worker) (x : Piece) → w < length xs → Contains (get_or xs w d).pieces x → Contains (flat_map pieces_of xs) x
pieces_at [] w d x h there = absurd (omega (arith, h))
pieces_at (s ∷ xs) zero d x h there = Contains-append_left s.pieces (flat_map pieces_of xs) x there
pieces_at (s ∷ xs) (suc w) d x h there =
    let less : w < length xs = omega arith in
    Contains-append_right s.pieces (flat_map pieces_of xs) x (pieces_at xs w d x less there)

pub pieces_put : (xs : List Worker) (w : ℕ) (t d : Worker) (x : Piece) → w < length xs → (Contains (get_or xs w d).pieces x → Contains t.pieces x)
    → Contains (flat_map pieces_of xs) x → Contains (flat_map pieces_of (set xs w t)) x
pieces_put [] w t d x h more there = there
pieces_put (s ∷ xs) zero t d x h more there =
    elim (Contains-append_cases s.pieces (flat_map pieces_of xs) x there) [
      | inl here ↦ Contains-append_left t.pieces (flat_map pieces_of xs) x (more here)
      | inr behind ↦ Contains-append_right t.pieces (flat_map pieces_of xs) x behind
    ]
pieces_put (s ∷ xs) (suc w) t d x h more there =
    let less : w < length xs = omega arith in
    elim (Contains-append_cases s.pieces (flat_map pieces_of xs) x there) [
      | inl here ↦ Contains-append_left s.pieces (flat_map pieces_of (set xs w t)) x here
      | inr behind ↦ Contains-append_right s.pieces (flat_map pieces_of (set xs w t)) x (pieces_put xs w t d x less more behind)
    ]

pub pieces_new : (xs : List Worker) (w : ℕ) (t d : Worker) (x : Piece) → w < length (set xs w t) → w < length xs → Contains t.pieces x
    → Contains (flat_map pieces_of (set xs w t)) x
pieces_new xs w t d x there h here =
    let P : Worker → Type 0 = λ s. Contains s.pieces x in
    pieces_at (set xs w t) w d x there (subst P (sym (get_or-set_same xs w t d h)) here)
