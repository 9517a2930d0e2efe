-- An order of two processes is no other fact; and of an order that isn't known only the step reads it that asks how long its first
-- process may have to wait.
use Rattle.std.proofs.Common.{◌≡◌, ◌≢◌, ℕ, ◌-◌, List, length, slice_index, Bool, true, false, IsTrue, IsFalse, inl, inr, ap, ap₂, subst, sym, ◌∙◌}
use Rattle.std.proofs.lemmas.Bool.{both_ways, false≢true}
use Rattle.ttp_model.specs.declared.step.Step.TheVariants.{UsSettled}
use Rattle.ttp_model.specs.Instance.{Instance}
use Rattle.sought_plans.specs.Known.{Known, bef_of}
use Rattle.sought_plans.specs.Premises.{IsAhead, IsRing}
use Rattle.tt_infer.specs.declared.fact.Fact.{Fact}
use Rattle.tt_infer.specs.declared.fact.Fact.TheVariants.{Start, End, FirstRound, LateRound, Order, Closed}
use Rattle.tt_infer.specs.Reads.{AreNeighbours, BoundsRun, BoundsSending, IsKnownPair, KeepsOut, TellsApart, TellsWait}

-- orders are told from other facts, and from each other
is_order : Fact → Bool
is_order (Start p) = false
is_order (End p) = false
is_order (FirstRound m) = false
is_order (LateRound m) = false
is_order (Order p q) = true
is_order Closed = false

first_of : Fact → ℕ
first_of (Start p) = 0
first_of (End p) = 0
first_of (FirstRound m) = 0
first_of (LateRound m) = 0
first_of (Order p q) = p
first_of Closed = 0

second_of : Fact → ℕ
second_of (Start p) = 0
second_of (End p) = 0
second_of (FirstRound m) = 0
second_of (LateRound m) = 0
second_of (Order p q) = q
second_of Closed = 0

module _ (f : Known) (p q : ℕ) where
  pub no_start : (x : ℕ) → Order p q ≢ Start x
  unfolding is_order
  no_start x same = false≢true (sym (ap is_order same))

  pub no_end : (x : ℕ) → Order p q ≢ End x
  unfolding is_order
  no_end x same = false≢true (sym (ap is_order same))

  pub no_first : (m : ℕ) → Order p q ≢ FirstRound m
  unfolding is_order
  no_first m same = false≢true (sym (ap is_order same))

  pub no_late : (m : ℕ) → Order p q ≢ LateRound m
  unfolding is_order
  no_late m same = false≢true (sym (ap is_order same))

  first_same : (x y : ℕ) → Order p q ≡ Order x y → p ≡ x
  unfolding first_of
  first_same x y same = ap first_of same

  known_same : (x y : ℕ) → Order p q ≡ Order x y → bef_of f p q ≡ bef_of f x y
  unfolding first_of second_of
  known_same x y same = ap₂ (bef_of f) (ap first_of same) (ap second_of same)

module _ (i : Instance) (f : Known) (p q : ℕ) (unknown : IsFalse (bef_of f p q)) where
  -- an order that is known is another one
  pub not_known : (x y : ℕ) → Order p q ≡ Order x y → ¬ IsTrue (bef_of f x y)
  not_known x y same known = both_ways _ unknown (known_same f p q x y same ∙ known)

  ahead_of : (ps : List ℕ) (x y : ℕ) → AreNeighbours ps x y → IsRing i f ps → IsAhead i f x y
  ahead_of ps x y (inl beside) ring =
      subst (λ (a : ℕ). IsAhead i f a y) beside.2 (subst (λ (b : ℕ). IsAhead i f (slice_index ps beside.0) b) beside.3 (ring.each beside.0 beside.1))
  ahead_of ps x y (inr ends) ring =
      subst (λ (a : ℕ). IsAhead i f a y) ends.0 (subst (λ (b : ℕ). IsAhead i f (slice_index ps (length ps - 1)) b) ends.1 ring.closes)

  pub not_in_ring : (ps : List ℕ) → IsRing i f ps → ¬ IsKnownPair i ps (Order p q)
  not_in_ring ps ring pair = elim (ahead_of ps pair.first pair.second pair.neighbours ring) [
    | inl known ↦ not_known pair.first pair.second pair.order known
    | inr leads ↦ pair.no_lead leads
  ]

  pub not_run : (a x : ℕ) → ¬ BoundsRun a x (Order p q)
  not_run a x reads = elim reads [ inl end ↦ no_end f p q x end | inr start ↦ no_start f p q x start.1 ]

  pub not_sending : (a m : ℕ) → ¬ BoundsSending a m (Order p q)
  not_sending a m reads = elim reads [ inl late ↦ no_late f p q m late | inr first ↦ no_first f p q m first.1 ]

  pub not_kept_out : (r k : ℕ) → ¬ KeepsOut f r k (Order p q)
  not_kept_out r k reads = elim reads [ inl first ↦ no_first f p q k first.1 | inr late ↦ no_late f p q k late.2 ]

  pub not_apart : (m k : ℕ) → ¬ TellsApart f m k (Order p q)
  not_apart m k reads = elim reads [
    | inl before ↦ elim before.1 [ inl late ↦ no_late f p q k late | inr first ↦ no_first f p q m first ]
    | inr behind ↦ elim behind.2 [ inl late ↦ no_late f p q m late | inr first ↦ no_first f p q k first ]
  ]

  pub of_its_first : (x y : ℕ) → TellsWait f x y (Order p q) → UsSettled x ≡ UsSettled p
  of_its_first x y reads = elim reads [ inl order ↦ ap UsSettled (sym (first_same f p q x y order)) | inr end ↦ absurd (no_end f p q y end.1) ]
