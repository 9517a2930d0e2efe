-- The row of all watches' views: how many watches there are, and what stays where one view is changed.
use Rattle.std.proofs.Common.{◌≡◌, ◌≢◌, ℕ, zero, suc, ◌+◌, ◌<◌, ◌≤◌, inl, inr, ⊎_elim, Bool, false, List, [], ◌∷◌, length, set, sym, ap, ◌∙◌, subst, cond, All, Contains, arith}
use native.Mathlib.Decide.{ℕ_discrete}
use Rattle.std.proofs.lemmas.List.Sums.{sum_by-cons}
use mathlib.Core.Option.{some, some-injective, some-ne-none}
use lib.ListN.{get_elem?}
use Rattle.atomic_table.proofs.Lists.{at_set, set_here, set_else}
use Rattle.incumbent.specs.declared.word.View.{View}
use Rattle.incumbent.specs.Word.{FitsAt, FitsEach, IsReached, BelowAll, live_count}

abbrev pub weight_of : View → ℕ
weight_of v = cond v.live 1 0

-- the count after a change of one view
pub total_set : (views : List View) (port : ℕ) (v w : View) → get_elem? views port ≡ some v
    → live_count (set views port w) + weight_of v ≡ live_count views + weight_of w
total_set [] port v w e = absurd (some-ne-none v (sym e))
total_set (x ∷ xs) zero v w e =
    let is : weight_of x ≡ weight_of v = ap weight_of (some-injective x v e) in omega (arith, sum_by-cons weight_of w xs, sum_by-cons weight_of x xs)
total_set (x ∷ xs) (suc port) v w e = omega (arith, sum_by-cons weight_of x (set xs port w), sum_by-cons weight_of x xs, total_set xs port v w e)

-- the count where a view keeps its place
pub same_count : (views : List View) (port : ℕ) (v w : View) → get_elem? views port ≡ some v → w.live ≡ v.live
    → live_count (set views port w) ≡ live_count views
same_count views port v w at e = let h = total_set views port v w at in let is : weight_of w ≡ weight_of v = ap (λ (b : Bool). cond b 1 0) e in omega arith

pub each_set : (F : ℕ → View → Type 0) (views : List View) (port : ℕ) (w : View) → F port w
    → ((j : ℕ) (u : View) → j ≢ port → get_elem? views j ≡ some u → F j u) → (j : ℕ) (u : View) → get_elem? (set views port w) j ≡ some u → F j u
each_set F views port w mine others j u e = ⊎_elim (λ (x : (j ≡ port) × (w ≡ u)). subst (λ (y : ℕ × View). F y.0 y.1) (λ i. (sym x.0 i, x.1 i)) mine)
    (λ (x : (j ≢ port) × (get_elem? views j ≡ some u)). others j u x.0 x.1) (at_set views port j w u e)

pub lower : (n m : ℕ) (xs : List ℕ) → m ≤ n → All (λ x. n ≤ x) xs → All (λ x. m ≤ x) xs
lower n m xs le h k d small = let p = h k d small in omega arith

pub at_length : (views : List View) (port : ℕ) (v : View) → get_elem? views port ≡ some v → port < length views
at_length [] port v e = absurd (some-ne-none v (sym e))
at_length (x ∷ xs) zero v e = omega arith
at_length (x ∷ xs) (suc port) v e = let h = at_length xs port v e in omega arith

-- one view of a row is changed
module _ (views : List View) (port : ℕ) (v w : View) (at : get_elem? views port ≡ some v) where
  -- what a view has in its place it has in the changed row, if the new view has it too
  pub moved : (Q : View → Type 0) → (Q v → Q w) → (p : ℕ) (u : View) → get_elem? views p ≡ some u → Q u
      → (q : ℕ) × (x : View) × (get_elem? (set views port w) q ≡ some x) × Q x
  moved Q more p u there has = moved_by (ℕ_discrete p port) where
    moved_by : Dec (p ≡ port) → (q : ℕ) × (x : View) × (get_elem? (set views port w) q ≡ some x) × Q x
    moved_by (yes e) =
        (port, w, set_here views port w (at_length views port v at), more (subst Q (some-injective u v (sym there ∙ ap (get_elem? views) e ∙ at)) has))
    moved_by (no ne) = (p, u, set_else views port p w ne ∙ there, has)

  pub still_reached : (top n : ℕ) → (Contains v.offers n → Contains w.offers n) → IsReached top n views → IsReached top n (set views port w)
  still_reached top n more (inl e) = inl e
  still_reached top n more (inr r) = inr (moved (λ (u : View). Contains u.offers n) more r.0 r.1 r.2 r.3)

  -- the word goes down to m, and one watch has seen and offered more
  pub goes_down : (top n m : ℕ) → FitsEach n (live_count views) views → m ≤ n → BelowAll m w → (w.live ≡ false → w.offers ≡ []) → w.live ≡ v.live
      → w.opening ≡ v.opening → w.out ≡ v.out
      → FitsEach m (live_count (set views port w)) (set views port w)
  goes_down top n m each le below ended live opening out =
      let same = same_count views port v w at live in let mine = each port v at in
      each_set (FitsAt m (live_count (set views port w))) views port w
      (record { below = below; ended = ended; opening = λ o. let f = mine.opening (sym opening ∙ o) in (f.0, same ∙ f.1 ∙ ap (λ k. k + 1) (sym out)) })
      (λ j u other e. let f = each j u e in record {
        below = record { seen = lower n m _ le f.below.seen; offers = lower n m _ le f.below.offers };
        ended = f.ended;
        opening = λ o. ((f.opening o).0, same ∙ (f.opening o).1);
      })

pub one_above : (n x : ℕ) → n ≤ x → All (λ y. n ≤ y) (x ∷ [])
one_above n x le zero d h = le
one_above n x le (suc k) d h = absurd (omega arith)

pub weight_le : (views : List View) (port : ℕ) (v : View) → get_elem? views port ≡ some v → weight_of v ≤ live_count views
weight_le [] port v e = absurd (some-ne-none v (sym e))
weight_le (x ∷ xs) zero v e = let is : weight_of x ≡ weight_of v = ap weight_of (some-injective x v e) in omega (arith, sum_by-cons weight_of x xs)
weight_le (x ∷ xs) (suc port) v e = omega (arith, sum_by-cons weight_of x xs, weight_le xs port v e)
