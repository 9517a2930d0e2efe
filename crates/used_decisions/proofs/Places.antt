-- The places that a path's decisions take, and how many of them are kept.
use Rattle.std.proofs.Common.{◌≡◌, ℕ, zero, suc, ◌+◌, ◌≤◌, List, [], ◌∷◌, ◌++◌, length, Bool, IsFalse, arith, refl, ap, sym, subst, ◌∙◌, append_assoc, length-append}
use Rattle.std.proofs.lemmas.Bool.{false≢true}
use Rattle.std.proofs.lemmas.List.{append-nil}
use Rattle.ttp_model.specs.Instance.{Instance}
use Rattle.tt_choice.specs.Choice.{Choice}
use Rattle.tt_choice.specs.Branches.{root_choice}
use Rattle.tt_choice.specs.Decisions.{choice_after, choice_after_all, chosen}
use Rattle.tt_choice.specs.declared.decision.Decision.{Decision}
use Rattle.tt_choice.specs.declared.decision.Decision.TheVariants.{Place, Cap, Before, AtMost, AtLeast, Channel}
use Rattle.tt_choice.specs.Kept.{Marked, keep, drop, all_of, kept_of}
use Rattle.used_decisions.specs.declared.turn.Turn.{Turn}
use Rattle.used_decisions.specs.declared.turn.Placed.{Placed}
use Rattle.used_decisions.specs.Levels.{has_level}
use Rattle.used_decisions.specs.Turns.{placed_by, placed_of, nodes_of}
use Rattle.used_decisions.specs.Marks.{KeepsLevels, ArePlacesTold}

module _ (i : Instance) where
  -- a decision takes its place behind those that are taken
  prefix_after : (c : Choice) (d : Decision) (level : ℕ) → (choice_after i c d).prefix ≡ c.prefix ++ nodes_of (placed_by d level)
  prefix_after c (Place n) level = refl
  prefix_after c (Cap n k) level = sym (append-nil c.prefix)
  prefix_after c (Before p q) level = sym (append-nil c.prefix)
  prefix_after c (AtMost m r) level = sym (append-nil c.prefix)
  prefix_after c (AtLeast m r) level = sym (append-nil c.prefix)
  prefix_after c (Channel m k) level = sym (append-nil c.prefix)

  nodes_more : (d : Decision) (level : ℕ) (rest : List Placed) → nodes_of (placed_by d level ++ rest) ≡ nodes_of (placed_by d level) ++ nodes_of rest
  nodes_more (Place n) level rest = refl
  nodes_more (Cap n k) level rest = refl
  nodes_more (Before p q) level rest = refl
  nodes_more (AtMost m r) level rest = refl
  nodes_more (AtLeast m r) level rest = refl
  nodes_more (Channel m k) level rest = refl

  one_more : (levels : List Bool) (c : Choice) (d : Decision) (turn : Turn) (turns : List Turn) (ms : List Marked) → d ≡ turn.decision
      → (choice_after_all i (choice_after i c d) (all_of ms)).prefix ≡ (choice_after i c d).prefix ++ nodes_of (placed_of turns)
      → (choice_after_all i (choice_after i c d) (all_of ms)).prefix ≡ c.prefix ++ nodes_of (placed_of (turn ∷ turns))
  one_more levels c d turn turns ms is rest =
      rest ∙ (ap (λ (xs : List ℕ). xs ++ nodes_of (placed_of turns)) (prefix_after c d turn.level)
      ∙ (append_assoc c.prefix (nodes_of (placed_by d turn.level)) (nodes_of (placed_of turns))
      ∙ ap (λ (xs : List ℕ). c.prefix ++ xs) (sym (nodes_more d turn.level (placed_of turns)) ∙ ap (λ (x : Decision). nodes_of (placed_by x turn.level ++ placed_of turns)) is)))

  order_from : (levels : List Bool) (c : Choice) (turns : List Turn) (ms : List Marked) → KeepsLevels levels turns ms → (choice_after_all i c (all_of ms)).prefix ≡ c.prefix ++ nodes_of (placed_of turns)
  order_from levels c [] [] keeps = sym (append-nil c.prefix)
  order_from levels c [] (m ∷ ms) keeps = absurd keeps
  order_from levels c (turn ∷ turns) [] keeps = absurd keeps
  order_from levels c (turn ∷ turns) (keep d ∷ ms) keeps = one_more levels c d turn turns ms keeps.0 (order_from levels (choice_after i c d) turns ms keeps.1)
  order_from levels c (turn ∷ turns) (drop d ∷ ms) keeps = one_more levels c d turn turns ms keeps.0 (order_from levels (choice_after i c d) turns ms keeps.2)

  -- the slot order of all decisions is that of the path
  pub order_is : (levels : List Bool) (turns : List Turn) (ms : List Marked) → KeepsLevels levels turns ms → (chosen i (all_of ms)).prefix ≡ nodes_of (placed_of turns)
  order_is levels turns ms keeps = order_from levels (root_choice i) turns ms keeps

  -- of a kept decision the place stands in the order, if it takes one
  keep_one : (levels : List Bool) (c : Choice) (d : Decision) (level count : ℕ) (rest : List Placed) (kept : List Marked)
      → ((more : ℕ) → ArePlacesTold levels more rest → more ≤ length rest → length (choice_after i c d).prefix + more ≤ length (choice_after_all i (choice_after i c d) (kept_of kept)).prefix)
      → ArePlacesTold levels count (placed_by d level ++ rest) → count ≤ length (placed_by d level ++ rest)
      → length c.prefix + count ≤ length (choice_after_all i (choice_after i c d) (kept_of kept)).prefix
  keep_one levels c (Place n) level zero rest kept next told within = omega (arith, next zero tt (omega arith), length-append c.prefix (n ∷ []))
  keep_one levels c (Place n) level (suc count) rest kept next told within = omega (arith, next count told.1 (omega (arith, within)), length-append c.prefix (n ∷ []))
  keep_one levels c (Cap n k) level count rest kept next told within = next count told within
  keep_one levels c (Before p q) level count rest kept next told within = next count told within
  keep_one levels c (AtMost m r) level count rest kept next told within = next count told within
  keep_one levels c (AtLeast m r) level count rest kept next told within = next count told within
  keep_one levels c (Channel m k) level count rest kept next told within = next count told within

  -- one that is dropped takes none of those that are told
  drop_one : (levels : List Bool) (c : Choice) (d : Decision) (level count : ℕ) (rest : List Placed) (kept : List Marked) → IsFalse (has_level levels level)
      → ((more : ℕ) → ArePlacesTold levels more rest → more ≤ length rest → length c.prefix + more ≤ length (choice_after_all i c (kept_of kept)).prefix)
      → ArePlacesTold levels count (placed_by d level ++ rest) → count ≤ length (placed_by d level ++ rest)
      → length c.prefix + count ≤ length (choice_after_all i c (kept_of kept)).prefix
  drop_one levels c (Place n) level zero rest kept never next told within = next zero tt (omega arith)
  drop_one levels c (Place n) level (suc count) rest kept never next told within = absurd (false≢true (sym never ∙ told.0))
  drop_one levels c (Cap n k) level count rest kept never next told within = next count told within
  drop_one levels c (Before p q) level count rest kept never next told within = next count told within
  drop_one levels c (AtMost m r) level count rest kept never next told within = next count told within
  drop_one levels c (AtLeast m r) level count rest kept never next told within = next count told within
  drop_one levels c (Channel m k) level count rest kept never next told within = next count told within

  places_from : (levels : List Bool) (c : Choice) (turns : List Turn) (ms : List Marked) (count : ℕ) → KeepsLevels levels turns ms
      → ArePlacesTold levels count (placed_of turns) → count ≤ length (placed_of turns) → length c.prefix + count ≤ length (choice_after_all i c (kept_of ms)).prefix
  places_from levels c [] [] count keeps told within = omega (arith, within)
  places_from levels c [] (m ∷ ms) count keeps told within = absurd keeps
  places_from levels c (turn ∷ turns) [] count keeps told within = absurd keeps
  places_from levels c (turn ∷ turns) (keep d ∷ ms) count keeps told within =
      keep_one levels c d turn.level count (placed_of turns) ms
      (λ more also there. places_from levels (choice_after i c d) turns ms more keeps.1 also there)
      (subst (λ (x : Decision). ArePlacesTold levels count (placed_by x turn.level ++ placed_of turns)) (sym keeps.0) told)
      (subst (λ (x : Decision). count ≤ length (placed_by x turn.level ++ placed_of turns)) (sym keeps.0) within)
  places_from levels c (turn ∷ turns) (drop d ∷ ms) count keeps told within =
      drop_one levels c d turn.level count (placed_of turns) ms keeps.1
      (λ more also there. places_from levels c turns ms more keeps.2 also there)
      (subst (λ (x : Decision). ArePlacesTold levels count (placed_by x turn.level ++ placed_of turns)) (sym keeps.0) told)
      (subst (λ (x : Decision). count ≤ length (placed_by x turn.level ++ placed_of turns)) (sym keeps.0) within)

  -- of the first places that are told each is kept
  pub places_are_kept : (levels : List Bool) (turns : List Turn) (ms : List Marked) (count : ℕ) → KeepsLevels levels turns ms
      → ArePlacesTold levels count (placed_of turns) → count ≤ length (placed_of turns) → count ≤ length (chosen i (kept_of ms)).prefix
  places_are_kept levels turns ms count keeps told within = omega (arith, places_from levels (root_choice i) turns ms count keeps told within)
