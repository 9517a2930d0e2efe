-- All children of a branch, listed one after another.
use Rattle.std.proofs.Common.{◌≡◌, ℕ, ◌+◌, ◌<◌, not, List, [], ◌∷◌, ◌++◌, All, length, slice_index, filter, map, Bool, true, false, arith, sym, ap, ◌∙◌, zero-add}
use Rattle.std.specs.List.{range_with_len}
use Rattle.std.proofs.lemmas.List.{same_lists, get_or-map, length-map, map-append}
use Rattle.std.proofs.lemmas.List.Elements.{filter-append}
use Rattle.std.proofs.lemmas.List.FromFn.{length-map-range_with_len, get_or-map-range_with_len}
use Rattle.std.proofs.lemmas.Grind.{common_steps}
use Rattle.ttp_model.specs.declared.step.Kind.{Kind}
use Rattle.ttp_model.specs.declared.step.Kind.TheVariants.{Place}
use Rattle.ttp_model.specs.Instance.{Instance}
use Rattle.ttp_model.proofs.Ranges.{range_more}
use Rattle.tt_choice.specs.declared.decision.Decision.TheVariants as decided
use Rattle.tt_choice.specs.Choice.{Choice, IsChoice}
use Rattle.tt_choice.specs.Branches.{is_placed, unplaced, IsOpen, children, child, child_choices}
use Rattle.tt_choice.specs.Decisions.{decisions_of}
use Rattle.tt_choice.proofs.Children.{IsChoice-child}

-- a list's elements, one after another
each_again : {X : Type 0} (g : ℕ → X) (xs : List ℕ) → map (λ k. g (slice_index xs k)) (range_with_len 0 (length xs)) ≡ map g xs
each_again g xs =
    let f = λ (k : ℕ). g (slice_index xs k) in
    same_lists _ _ (length-map-range_with_len f 0 (length xs) ∙ sym (length-map xs g)) (λ k d h.
    let inside : k < length xs = rw (← length-map-range_with_len f 0 (length xs)) h in
    get_or-map-range_with_len f 0 (length xs) k k d inside (zero-add k) ∙ sym (get_or-map g xs k 0 d inside))

-- the nodes that pass, of one node more
passing_more : (p : ℕ → Bool) (n : ℕ) → filter p (range_with_len 0 (n + 1)) ≡ filter p (range_with_len 0 n) ++ filter p (n ∷ [])
passing_more p n = ap (filter p) (range_more n) ∙ filter-append p (range_with_len 0 n) (n ∷ [])

-- one more for a node that isn't placed
pub next_more : {X : Type 0} (g : ℕ → X) (c : Choice) (n : ℕ) → is_placed c n ≡ false → map g (filter (λ m. not (is_placed c m)) (range_with_len 0 n)) ++ g n ∷ [] ≡ map g (filter (λ m. not (is_placed c m)) (range_with_len 0 (n + 1)))
next_more g c n new = rw (passing_more (λ m. not (is_placed c m)) n, new) (sym (map-append g (filter (λ m. not (is_placed c m)) (range_with_len 0 n)) (n ∷ [])))

-- none for one that is
pub next_same : {X : Type 0} (g : ℕ → X) (c : Choice) (n : ℕ) → is_placed c n ≡ true → map g (filter (λ m. not (is_placed c m)) (range_with_len 0 n)) ≡ map g (filter (λ m. not (is_placed c m)) (range_with_len 0 (n + 1)))
next_same g c n placed = rw (passing_more (λ m. not (is_placed c m)) n, placed) (grind (arith, common_steps))

-- the unplaced nodes put next are the decisions of a place
pub place_each : (i : Instance) (c : Choice) → map decided.Place (unplaced i c) ≡ decisions_of i c Place
place_each i c = sym (each_again decided.Place (unplaced i c))

-- as many as the branch has
pub length-child_choices : (i : Instance) (c : Choice) (kind : Kind) → length (child_choices i c kind) ≡ children i c kind
length-child_choices i c kind = length-map-range_with_len (child i c kind) 0 (children i c kind)

-- each child is a choice of the instance
pub children_are : (i : Instance) (c : Choice) (kind : Kind) → IsChoice i c → IsOpen i c kind → All (IsChoice i) (child_choices i c kind)
children_are i c kind ok is_open = λ k d h.
    let inside : k < children i c kind = rw (← length-child_choices i c kind) h in
    rw (get_or-map-range_with_len (child i c kind) 0 (children i c kind) k k d inside (zero-add k)) (IsChoice-child i c kind k ok is_open inside)
