-- What a hand has taken, after one more take.
use Rattle.std.proofs.Common.{All, arith, true, sym, subst, ◌∙◌, zero, suc, ◌≡◌, ℕ, List, [], ◌∷◌, ◌++◌, length, get_or, set, ◌<◌, ap, append_assoc}
use Rattle.std.specs.Prelude.{IsPermutation, Option, Some, None, MatchOption, IfSome, IfNone}
use Rattle.std.specs.List.{flat_map}
use Rattle.std.proofs.lemmas.List.Sorted.{IsPermutation-trans, IsPermutation-append_right, IsPermutation-middle}
use Rattle.crossbeam_deque.proofs.Lists.{at_index}
use Rattle.search_trees.specs.Task.{Task}
use Rattle.steal_pool.specs.declared.door.Door.{Door}
use Rattle.steal_pool.specs.declared.account.Tally.{Tally}
use Rattle.search_trees.specs.Account.{IsSourced}
use Rattle.steal_pool.specs.Account.{HasSources, Took}
use Rattle.steal_pool.specs.Door.{deque_of, deques_of, taken_by}
use Rattle.steal_pool.proofs.Orders.{first_same, more_in_one, same_in_all, same_map}

pub same_deques : {J : Type 0} → (doors : List (Door J)) (place : ℕ) (d e : Door J) → place < length doors → d ≡ get_or doors place d
    → deque_of e ≡ deque_of d → deques_of (set doors place e) ≡ deques_of doors
same_deques doors place d e small at is = same_map deque_of doors place d e (at_index doors place d small at) is

pub one_more : {J : Type 0} → (own : List Task) (doors : List (Door J)) (place : ℕ) (d e : Door J) (t : Task) → place < length doors
    → d ≡ get_or doors place d → taken_by e ≡ taken_by d ++ t ∷ []
    → IsPermutation (own ++ flat_map taken_by (set doors place e)) (t ∷ (own ++ flat_map taken_by doors))
one_more own doors place d e t small at is =
    IsPermutation-trans _ _ _ (IsPermutation-append_right own _ _ (more_in_one taken_by doors place d e (t ∷ []) (at_index doors place d small at)
    is)) (IsPermutation-middle own t (flat_map taken_by doors))

pub no_more : {J : Type 0} → (own : List Task) (doors : List (Door J)) (place : ℕ) (d e : Door J) → place < length doors → d ≡ get_or doors place d
    → taken_by e ≡ taken_by d → own ++ flat_map taken_by (set doors place e) ≡ own ++ flat_map taken_by doors
no_more own doors place d e small at is = ap (λ (l : List Task). own ++ l) (same_in_all taken_by doors place d e (at_index doors place d small at) is)

pub popped : (own rest : List Task) (t : Task) → IsPermutation ((own ++ t ∷ []) ++ rest) (t ∷ (own ++ rest))
popped own rest t = first_same _ _ _ (append_assoc own (t ∷ []) rest) (IsPermutation-middle own t rest)

module _ {J : Type 0} (own : List Task) (doors : List (Door J)) (place : ℕ) (d e : Door J) (small : place < length doors) (at : d ≡ get_or doors place d) where
  abbrev pub Taken : Option Task → Type 0
  Taken r = MatchOption r (taken_by e ≡ taken_by d) (λ t. taken_by e ≡ taken_by d ++ t ∷ [])

  pub some_after : (r : Option Task) → Taken r
      → IfSome r (λ t. IsPermutation (own ++ flat_map taken_by (set doors place e)) (t ∷ (own ++ flat_map taken_by doors)))
  some_after None h = tt
  some_after (Some t) h = one_more own doors place d e t small at h

  pub none_after : (r : Option Task) → Taken r → IfNone r (own ++ flat_map taken_by (set doors place e) ≡ own ++ flat_map taken_by doors)
  none_after None h = no_more own doors place d e small at h
  none_after (Some t) h = tt

pub pop_some : (Q : Task → Type 0) (v w : Tally) (rest : List Task) (P : Type 0) (r : Option Task) → MatchOption r P (λ x. Took Q v (x ∷ []) w)
    → IfSome r (λ t. IsPermutation (w.taken ++ rest) (t ∷ (v.taken ++ rest)))
pop_some Q v w rest P None h = tt
pop_some Q v w rest P (Some t) h = first_same _ _ _ (ap (λ (u : Tally). u.taken ++ rest) h.after) (popped v.taken rest t)

-- with no other pass out each task that was taken was pushed
pub pop_sources : (Q : Task → Type 0) (v w : Tally) (P : Type 0) (r : Option Task) → v.owner ≡ true → v.live ≡ true
    → MatchOption r P (λ x. Took Q v (x ∷ []) w) → IfSome r (λ _. w.out ≡ 0 → IsSourced Task w.pushed w.taken)
pop_sources Q v w P None is_owner live h = tt
pop_sources Q v w P (Some t) is_owner live h =
    λ none_out. h.sources (ap (λ (u : Tally). u.owner) h.after ∙ is_owner) (ap (λ (u : Tally). u.live) h.after ∙ live) none_out

-- and so it is where that was learned and nothing was taken
pub counted_sources : (v w : Tally) → w ≡ v → v.owner ≡ true → v.live ≡ true → HasSources v → w.out ≡ 0 → IsSourced Task w.pushed w.taken
counted_sources v w same is_owner live has none_out =
    subst (λ (u : Tally). IsSourced Task u.pushed u.taken) (sym same) (has is_owner live (sym (ap (λ (u : Tally). u.out) same) ∙ none_out))

-- what is true of the one task that was taken
pub pop_is : (Q : Task → Type 0) (v w : Tally) (P : Type 0) (r : Option Task) → MatchOption r P (λ x. Took Q v (x ∷ []) w) → IfSome r Q
pop_is Q v w P None h = tt
pop_is Q v w P (Some t) h = h.tasks 0 t (omega arith)

pub one_task : (P : Task → Type 0) (t : Task) → P t → All P (t ∷ [])
one_task P t is zero d h = is
one_task P t is (suc k) d h = absurd (omega arith)
