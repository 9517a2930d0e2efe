-- Which rounds some capacities make with a trail, by the bytes that they have together.
use Rattle.std.proofs.Common.{◌≡◌, ◌≢◌, ◌∙◌, ℕ, ◌+◌, ◌*◌, ◌<◌, ◌≤◌, ◌↔◌, List, [], ◌∷◌, Bool, false, IsTrue, length, slice_index_or, sum, arith, refl, sym, ap}
use Rattle.std.proofs.Math.Nat.{add-mul, eq_of_mul-eq-mul_left, mul-add}
use Rattle.std.proofs.lemmas.List.Sums.{sum_by-cons}
use Rattle.ttp_model.specs.declared.parts.Cluster.{Cluster}
use Rattle.ttp_model.specs.declared.error.Place.TheVariants.{AtCluster}
use Rattle.ttp_model.specs.Instance.{Instance}
use Rattle.ttp_model.specs.Rules.{IsInstance}
use Rattle.ttp_model.specs.Slots.{round_length, slot_duration}
use Rattle.plan_cycles.specs.Fits.{CanTake, round_of_bytes}
use Rattle.plan_cycles.specs.Sums.{AreSums, HaveSum, most_sum}
use Rattle.plan_cycles.proofs.RoundSums.{sum-le}

-- a round's ticks hang on the bytes of its capacities together
pub round_by_bytes : (c : Cluster) (caps : List ℕ) → round_length c caps ≡ round_of_bytes c (length caps) c.trail (sum caps)
round_by_bytes c [] = omega arith
round_by_bytes c (x ∷ caps) =
    let slot : ℕ = c.lead + c.head + c.trail in
    let one = sum_by-cons (slot_duration c) x caps in
    let bytes = ap (λ b. c.per_byte * b) (sum_by-cons (λ y. y) x caps) ∙ mul-add c.per_byte x (sum caps) in
    let slots = add-mul 1 (length caps) slot in
    omega (arith, round_by_bytes c caps, one, bytes, slots)

module _ (i : Instance) (trail round : ℕ) where
  pub taken_by_bytes : (bytes : ℕ) → round_of_bytes i.cluster (length i.nodes) trail bytes ≡ round → HaveSum i (length i.nodes) bytes → CanTake i trail round
  taken_by_bytes bytes is have = record {
    caps = have.caps;
    offered = have.offered;
    takes = round_by_bytes (record i.cluster { trail = trail }) have.caps ∙ (rw (have.offered.all, have.together) is);
  }

  pub bytes_of_taken : CanTake i trail round → (bytes : ℕ) × (round_of_bytes i.cluster (length i.nodes) trail bytes ≡ round) × HaveSum i (length i.nodes) bytes
  bytes_of_taken can =
      let by = round_by_bytes (record i.cluster { trail = trail }) can.caps in
      (sum can.caps, rw can.offered.all at (sym by ∙ can.takes), record { caps = can.caps; offered = can.offered; together = refl })

-- a round has these bytes or others
pub same_bytes : (c : Cluster) (count trail a b : ℕ) → 1 ≤ c.per_byte → round_of_bytes c count trail a ≡ round_of_bytes c count trail b → a ≡ b
same_bytes c count trail a b some same = eq_of_mul-eq-mul_left c.per_byte some a b (omega (arith, same))

module _ (i : Instance) (trail round : ℕ) where
  -- no bytes make the round
  pub no_bytes_taken : ((bytes : ℕ) → round_of_bytes i.cluster (length i.nodes) trail bytes ≢ round) → ¬ CanTake i trail round
  no_bytes_taken none can = let by = bytes_of_taken i trail round can in none by.0 by.1

  module _ (w : IsInstance i) (bytes : ℕ) (is : round_of_bytes i.cluster (length i.nodes) trail bytes ≡ round) where
    -- only these do
    have_them : CanTake i trail round → HaveSum i (length i.nodes) bytes
    have_them can =
        let by = bytes_of_taken i trail round can in
        rw (same_bytes i.cluster (length i.nodes) trail bytes by.0 (w.ranges AtCluster).per_byte_least (is ∙ sym by.1)) by.2

    pub past_sums : most_sum < bytes → ¬ CanTake i trail round
    past_sums past can = omega (arith, past, sum-le i bytes w (have_them can))

    pub sums_tell : (sums : List Bool) → AreSums i (length i.nodes) sums → bytes < most_sum + 1 → IsTrue (slice_index_or sums bytes false) ↔ CanTake i trail round
    sums_tell sums are inside =
        let tells = are.each bytes inside in
        (λ reached. taken_by_bytes i trail round bytes is (tells.0 reached), λ can. tells.1 (have_them can))
