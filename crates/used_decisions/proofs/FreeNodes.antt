-- The nodes that aren't placed, one after another.
use Rattle.std.proofs.Common.{◌≡◌, ℕ, zero, suc, ◌+◌, ◌-◌, ◌<◌, ◌==◌, not, nat_lt, List, [], ◌∷◌, ◌++◌, length, slice_index, filter, cond}
use Rattle.std.proofs.Common.{Option, None, Some, Bool, true, false, arith, inl, inr, refl, ap, sym, ◌∙◌, length-append}
use Rattle.std.specs.List.{range_with_len, list_any, position, position_or_len}
use Rattle.std.specs.Option.{is_some}
use Rattle.std.proofs.lemmas.Bool.{false≢true, cases_Bool, lt-ltb, le-ltb, ltb-true, ltb-false}
use Rattle.std.proofs.lemmas.List.Elements.{filter-append}
use Rattle.used_decisions.specs.declared.turn.Turn.{Turn}
use Rattle.used_decisions.specs.declared.turn.Placed.{Placed}
use Rattle.used_decisions.specs.Turns.{placed_of, nodes_of}
use Rattle.used_decisions.specs.Children.{is_free}

one_later : (a b : ℕ) → nat_lt (1 + a) (suc b) ≡ nat_lt a b
one_later a b = elim (cases_Bool (nat_lt a b)) [
  | inl below ↦ lt-ltb (1 + a) (suc b) (omega (arith, ltb-true a b below)) ∙ sym below
  | inr from ↦ le-ltb (1 + a) (suc b) (omega (arith, ltb-false a b from)) ∙ sym from
]

-- a node stands in the slot order where its place is in it
any_placed : (placed : List Placed) (n : ℕ)
    → list_any (λ m. m == n) (nodes_of placed) ≡ nat_lt (position_or_len (λ (one : Placed). one.node == n) placed) (length placed)
any_placed [] n = refl
any_placed (one ∷ placed) n = elim (cases_Bool (one.node == n)) [
  | inl here ↦ rw here (sym (lt-ltb 0 (suc (length placed)) (omega arith)))
  | inr later ↦ rw later (any_placed placed n ∙ sym (one_later (position_or_len (λ (one : Placed). one.node == n) placed) (length placed)))
]

free_is : (turns : List Turn) (n : ℕ)
    → is_free turns n ≡ not (nat_lt (position_or_len (λ (one : Placed). one.node == n) (placed_of turns)) (length (placed_of turns)))
free_is turns n = ap not (any_placed (placed_of turns) n)

some_where : (b : Bool) (k : ℕ) → is_some (cond b (Some k) None) ≡ b
some_where true k = refl
some_where false k = refl

opposite : (a b : Bool) → a ≡ not b → not a ≡ b
opposite true true is = absurd (false≢true (sym is))
opposite true false is = refl
opposite false true is = refl
opposite false false is = absurd (false≢true is)

-- a node isn't placed where no place is found for it
pub free_where : (turns : List Turn) (n : ℕ) (found : Option ℕ) (test : Bool) → found ≡ position (λ (one : Placed). one.node == n) (placed_of turns)
    → is_some found ≡ not test → is_free turns n ≡ test
free_where turns n found test is tests =
    let place = position_or_len (λ (one : Placed). one.node == n) (placed_of turns) in
    let inside = nat_lt place (length (placed_of turns)) in
    let told : is_some found ≡ inside = ap is_some is ∙ some_where inside place in
    free_is turns n ∙ opposite inside test (sym told ∙ tests)

module _ (p : ℕ → Bool) where
  -- one that passes stands behind those in front of it that do
  passes_at : (xs ys : List ℕ) (n : ℕ) → p n ≡ true → slice_index (filter p (xs ++ n ∷ ys)) (length (filter p xs)) ≡ n
  passes_at [] ys n passes = rw passes refl
  passes_at (x ∷ xs) ys n passes = elim (cases_Bool (p x)) [
    | inl kept ↦ rw kept (passes_at xs ys n passes)
    | inr dropped ↦ rw dropped (passes_at xs ys n passes)
  ]

  range_parts : (from front rest at all : ℕ) → at ≡ from + front → all ≡ front + rest
      → range_with_len from all ≡ range_with_len from front ++ range_with_len at rest
  range_parts from zero rest at all is size =
      let here : at ≡ from = omega (arith, is) in
      let same : all ≡ rest = omega (arith, size) in
      rw (here, same) refl
  range_parts from (suc front) rest at all is size =
      let next : all ≡ suc (front + rest) = omega (arith, size) in
      rw next (ap (λ (xs : List ℕ). from ∷ xs) (range_parts (from + 1) front rest at (front + rest) (omega (arith, is)) refl))

  pub passes_in_range : (count n : ℕ) → n < count → p n ≡ true → slice_index (filter p (range_with_len 0 count)) (length (filter p (range_with_len 0 n))) ≡ n
  passes_in_range count n inside passes =
      let rest = count - n - 1 in
      let whole : range_with_len 0 count ≡ range_with_len 0 n ++ n ∷ range_with_len (n + 1) rest =
      range_parts 0 n (suc rest) n count (omega arith) (omega (arith, inside)) in
      rw whole (passes_at (range_with_len 0 n) (range_with_len (n + 1) rest) n passes)

  -- one number more
  filter_more : (n : ℕ) → filter p (range_with_len 0 (n + 1)) ≡ filter p (range_with_len 0 n) ++ filter p (n ∷ [])
  filter_more n = ap (filter p) (range_parts 0 n 1 n (n + 1) (omega arith) refl) ∙ filter-append p (range_with_len 0 n) (n ∷ [])

  pub one_passes : (n count : ℕ) → p n ≡ true → count ≡ length (filter p (range_with_len 0 n)) → count + 1 ≡ length (filter p (range_with_len 0 (n + 1)))
  one_passes n count passes is =
      let one : length (filter p (n ∷ [])) ≡ 1 = rw passes refl in
      omega (arith, is, ap length (filter_more n), length-append (filter p (range_with_len 0 n)) (filter p (n ∷ [])), one)

  pub one_fails : (n count : ℕ) → p n ≡ false → count ≡ length (filter p (range_with_len 0 n)) → count ≡ length (filter p (range_with_len 0 (n + 1)))
  one_fails n count fails is =
      let none : length (filter p (n ∷ [])) ≡ 0 = rw fails refl in
      omega (arith, is, ap length (filter_more n), length-append (filter p (range_with_len 0 n)) (filter p (n ∷ [])), none)
