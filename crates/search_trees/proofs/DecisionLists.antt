-- The decisions of a branch, listed one after another.
use Rattle.std.proofs.Common.{◌≡◌, ℕ, ◌+◌, ◌<◌, not, List, [], ◌∷◌, ◌++◌, length, slice_index, slice_index_or, filter, map, Bool, true, false, arith, sym, ap, ◌∙◌, zero-add}
use Rattle.std.specs.List.{range_with_len}
use Rattle.std.proofs.lemmas.List.{same_lists, get_or-map, length-map, map-append}
use Rattle.std.proofs.lemmas.List.Elements.{filter-append}
use Rattle.std.proofs.lemmas.List.FromFn.{length-map-range_with_len, get_or-map-range_with_len}
use Rattle.std.proofs.lemmas.Grind.{common_steps}
use Rattle.ttp_model.specs.declared.step.Kind.{Kind}
use Rattle.ttp_model.specs.declared.step.Kind.TheVariants.{Place}
use Rattle.ttp_model.specs.Instance.{Instance}
use Rattle.ttp_model.proofs.Ranges.{range_more}
use Rattle.tt_choice.specs.declared.decision.Decision.{Decision}
use Rattle.tt_choice.specs.declared.decision.Decision.TheVariants as decided
use Rattle.tt_choice.specs.Choice.{Choice}
use Rattle.tt_choice.specs.Branches.{is_placed, unplaced, children}
use Rattle.tt_choice.specs.Decisions.{decision_of, decisions_of}

-- a node comes next
abbrev pub placing : ℕ → Decision
placing n = decided.Place n

-- a list's elements, one after another
each_again : {X : Type 0} (g : ℕ → X) (xs : List ℕ) → map (λ k. g (slice_index xs k)) (range_with_len 0 (length xs)) ≡ map g xs
each_again g xs =
    let f = λ (k : ℕ). g (slice_index xs k) in
    same_lists _ _ (length-map-range_with_len f 0 (length xs) ∙ sym (length-map xs g)) (λ k d h.
    let inside : k < length xs = rw (← length-map-range_with_len f 0 (length xs)) h in
    get_or-map-range_with_len f 0 (length xs) k k d inside (zero-add k) ∙ sym (get_or-map g xs k 0 d inside))

-- the nodes that pass, of one node more
passing_more : (p : ℕ → Bool) (n : ℕ) → filter p (range_with_len 0 (n + 1)) ≡ filter p (range_with_len 0 n) ++ filter p (n ∷ [])
passing_more p n = ap (filter p) (range_more n) ∙ filter-append p (range_with_len 0 n) (n ∷ [])

-- a node that isn't placed is one decision more
pub next_more : (c : Choice) (n : ℕ) → is_placed c n ≡ false
    → map placing (filter (λ m. not (is_placed c m)) (range_with_len 0 n)) ++ placing n ∷ []
    ≡ map placing (filter (λ m. not (is_placed c m)) (range_with_len 0 (n + 1)))
next_more c n new =
    rw (passing_more (λ m. not (is_placed c m)) n, new) (sym (map-append placing (filter (λ m. not (is_placed c m)) (range_with_len 0 n)) (n ∷ [])))

-- a node that is placed is none
pub next_same : (c : Choice) (n : ℕ) → is_placed c n ≡ true
    → map placing (filter (λ m. not (is_placed c m)) (range_with_len 0 n)) ≡ map placing (filter (λ m. not (is_placed c m)) (range_with_len 0 (n + 1)))
next_same c n placed = rw (passing_more (λ m. not (is_placed c m)) n, placed) (grind (arith, common_steps))

-- the unplaced nodes, each put next, are the decisions of a place
pub placed_each : (i : Instance) (c : Choice) → map placing (unplaced i c) ≡ decisions_of i c Place
placed_each i c = sym (each_again placing (unplaced i c))

-- as many as the branch has children
pub length-decisions_of : (i : Instance) (c : Choice) (kind : Kind) → length (decisions_of i c kind) ≡ children i c kind
length-decisions_of i c kind = length-map-range_with_len (decision_of i c kind) 0 (children i c kind)

-- the decision of a child
pub decision_at : (i : Instance) (c : Choice) (kind : Kind) (k : ℕ) (d : Decision) → k < children i c kind
    → slice_index_or (decisions_of i c kind) k d ≡ decision_of i c kind k
decision_at i c kind k d inside = get_or-map-range_with_len (decision_of i c kind) 0 (children i c kind) k k d inside (zero-add k)
