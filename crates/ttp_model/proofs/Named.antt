-- The first of the names in a list that passes a test, as a loop finds it, and what it is to be named.
use Rattle.std.proofs.Common.{◌≡◌, ℕ, ◌≤◌, ◌<◌, List, [], length, get_or, refl, sym, arith, Bool, true, false, cond, ltb, Some, None, Contains}
use Rattle.std.specs.Prelude.{bytes_eq, is_none, nat_lt, position}
use Rattle.std.specs.List.{position_or_len}
use Rattle.std.proofs.Math.ListN.{get_or-map}
use Rattle.std.proofs.lemmas.Bool.{lt-ltb, le-ltb, ltb-false}
use Rattle.std.proofs.lemmas.List.Sums.{fails_before_first, position_or_len_is}
use Rattle.std.proofs.lemmas.Slice.Eq.{bytes_eq-Decides}
use Rattle.ttp_model.specs.declared.error.Part.TheVariants.{Nodes}
use Rattle.ttp_model.specs.Instance.{Instance, no_node}
use Rattle.ttp_model.specs.Names.{names_in, node_name}

pub found_at : (p : List ℕ → Bool) (names : List (List ℕ)) (k : ℕ) → k < length names → ((j : ℕ) → j < k → p (get_or names j []) ≡ false) → p (get_or names k []) ≡ true → position p names ≡ Some k
found_at p names k lt before here =
    let at : position_or_len p names ≡ k = position_or_len_is p names k [] (omega arith) before (λ _. here) in
    let in_it : ltb k (length names) ≡ true = lt-ltb _ _ lt in
    rw (at, in_it) refl

pub not_found : (p : List ℕ → Bool) (names : List (List ℕ)) (k : ℕ) → length names ≤ k → ((j : ℕ) → j < k → p (get_or names j []) ≡ false) → position p names ≡ None
not_found p names k le before =
    let at : position_or_len p names ≡ length names = position_or_len_is p names (length names) [] (omega arith) (λ j lt. before j (omega arith)) (λ lt. absurd (omega arith)) in
    let out : ltb (length names) (length names) ≡ false = le-ltb _ _ (omega arith) in
    rw (at, out) refl

-- the name of a node is that at its index in their list
pub node_name_is : (i : Instance) (k : ℕ) → node_name i k ≡ get_or (names_in i Nodes) k []
node_name_is i k = sym (get_or-map (λ n. n.name) i.nodes k no_node)

-- a name that stands among others is found there
module _ (names : List (List ℕ)) (name : List ℕ) where
  found_by : (k : ℕ) → k < length names → get_or names k name ≡ name → (inside : Bool)
      → nat_lt (position_or_len (λ n. bytes_eq n name) names) (length names) ≡ inside
      → is_none (cond inside (Some (position_or_len (λ n. bytes_eq n name) names)) None) ≡ false
  found_by k lt there true is = refl
  found_by k lt there false is =
      let past : length names ≤ position_or_len (λ n. bytes_eq n name) names = ltb-false _ _ is in
      let before : k < position_or_len (λ n. bytes_eq n name) names = omega arith in
      let fails = rw there at (fails_before_first (λ n. bytes_eq n name) names k name before) in
      absurd (cc (fails, (bytes_eq-Decides name name).1 refl))

  pub is_found : Contains names name → is_none (position (λ n. bytes_eq n name) names) ≡ false
  is_found there = found_by there.0 there.1 there.2 _ refl
