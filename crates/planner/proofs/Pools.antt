-- The hands of a pool, after some of them have changed.
use Rattle.std.proofs.Common.{◌≡◌, ℕ, zero, suc, List, [], ◌∷◌, ◌++◌, refl, sym, ap, subst, ◌∙◌, length, length-set}
use Rattle.std.specs.List.Sorted.{IsPermutation}
use Rattle.std.proofs.lemmas.List.{append-nil}
use Rattle.std.proofs.lemmas.List.Sorted.{IsPermutation-trans}
use mathlib.Core.Option.{some, some-injective, some-ne-none}
use lib.ListN.{get_elem?}
use Rattle.search_workers.specs.Task.{Task}
use Rattle.search_workers.specs.hand.Hand.{Hand}
use Rattle.search_workers.specs.Door.{DequeId}
use Rattle.search_workers.specs.Hand.{pushed, taken, IsSameHand, IsHandOf, IsPool, ChangesAt, all_pushed, all_taken}
use Rattle.search_workers.proofs.Orders.{more_in_one, same_in_all}
use Rattle.search_workers.proofs.Pools.{each_change}
use Rattle.planner.specs.Crew.{AreSameHands, IsGiven}
use Rattle.search_workers.proofs.Searching.{first_is, then_is}

module _ {J : Type 0} where
  hand_of_still : (ids : List DequeId) (place : ℕ) (g h : Hand J) → IsSameHand g h → IsHandOf ids place g → IsHandOf ids place h
  hand_of_still ids place g h same is = record {
    number = same.number ∙ is.number;
    own = is.own ∙ ap some (sym same.own);
    deques = same.deques ∙ is.deques;
    out = same.out ∙ is.out;
  }

  module _ (hands new : List (Hand J)) (k : ℕ) (tasks : List Task) (change : ChangesAt hands k (IsGiven tasks) new) where
    pub pool_given : IsPool hands → IsPool new
    pool_given pool = (
      pool.0,
      pool.1 ∙ (sym (length-set hands k change.1) ∙ sym (ap length change.3)),
      each_change (IsHandOf pool.0) (IsHandOf pool.0) hands k (IsGiven tasks) new pool.2 change (λ place h apart is. is) (λ g h is given. hand_of_still pool.0 k g h given.same is),
    )

    pub pushed_given : all_pushed hands ≡ [] → IsPermutation (all_pushed new) tasks
    pushed_given none = first_is _ _ _ (ap all_pushed change.3)
        (IsPermutation-trans _ _ _ (then_is _ _ _ (more_in_one pushed hands k change.0 change.1 change.4.gave change.2 change.4.pushes)
        (ap (λ (l : List Task). change.4.gave ++ l) none ∙ append-nil change.4.gave)) change.4.all)

    pub taken_given : all_taken hands ≡ [] → all_taken new ≡ []
    taken_given none = ap all_taken change.3 ∙ same_in_all taken hands k change.0 change.1 change.2 change.4.takes ∙ none

  length_same : (gs hs : List (Hand J)) → AreSameHands gs hs → length gs ≡ length hs
  length_same [] [] all = refl
  length_same [] (h ∷ hs) all = absurd all
  length_same (g ∷ gs) [] all = absurd all
  length_same (g ∷ gs) (h ∷ hs) all = ap suc (length_same gs hs all.1)

  same_at : (gs hs : List (Hand J)) (place : ℕ) (h : Hand J) → AreSameHands gs hs → get_elem? hs place ≡ some h → (g : Hand J) × (get_elem? gs place ≡ some g) × IsSameHand g h
  same_at [] [] place h all at = absurd (some-ne-none h (sym at))
  same_at [] (x ∷ hs) place h all at = absurd all
  same_at (g ∷ gs) [] place h all at = absurd all
  same_at (g ∷ gs) (x ∷ hs) zero h all at = (g, refl, subst (λ (y : Hand J). IsSameHand g y) (some-injective x h at) all.0)
  same_at (g ∷ gs) (x ∷ hs) (suc place) h all at = same_at gs hs place h all.1 at

  -- all hands have changed
  pub pool_same : (gs hs : List (Hand J)) → AreSameHands gs hs → IsPool gs → IsPool hs
  pool_same gs hs all pool = (
    pool.0,
    pool.1 ∙ length_same gs hs all,
    λ place h at. let was = same_at gs hs place h all at in hand_of_still pool.0 place was.0 h was.2 (pool.2 place was.0 was.1),
  )
