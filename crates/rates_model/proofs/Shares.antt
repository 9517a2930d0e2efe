-- With the share of each slot a round is as long as is asked for.
use Rattle.std.proofs.Common.{◌≡◌, ◌∙◌, ℕ, zero, suc, ◌+◌, ◌-◌, ◌*◌, ◌%◌, ◌^◌, ◌<◌, ◌≤◌, min, List, [], ◌∷◌, length, sum_by, Some, arith, inl, inr, ap, sym, refl, subst}
use Rattle.std.proofs.lemmas.Bool.{cases_lt}
use Rattle.std.proofs.lemmas.List.Sums.{sum_by-cons}
use Rattle.std.proofs.Math.Nat.{div-add-mod, mul-add, add-mul, mul_assoc, mul_comm, mul-le-mul_left, one-mul, zero-mul, mul-zero, zero-mod}
use Rattle.ttp_model.specs.Limits.{most_ticks}
use Rattle.ttp_model.specs.Slots.{slot_duration}
use Rattle.rates_model.specs.declared.parts.RatesCluster.{RatesCluster}
use Rattle.rates_model.specs.declared.parts.RatesNode.{RatesNode}
use Rattle.rates_model.specs.Rates.{Rates}
use Rattle.rates_model.specs.Cycles.{bus_for, round_of}
use Rattle.rates_model.specs.Finer.{finer, finer_cluster, finer_ticks, in_finer_ticks, rest_of, share_of, sharing_slots}
use Rattle.rates_model.specs.Rules.{IsRates}
use Rattle.rates_model.proofs.Multiples.{least_times_is, least_times_whole}

-- what is small was not cut
uncut : (n : ℕ) → min n (2 ^ 32 - 1) ≤ most_ticks → min n (2 ^ 32 - 1) ≡ n
uncut n small = grind (arith, small)

-- nor what is small behind a product
uncut_times : (a k : ℕ) → min a (2 ^ 32 - 1) * k ≤ most_ticks → min a (2 ^ 32 - 1) * k ≡ a * k
uncut_times a zero small = mul-zero (min a (2 ^ 32 - 1)) ∙ sym (mul-zero a)
uncut_times a (suc k) small =
    let once : min a (2 ^ 32 - 1) * 1 ≤ min a (2 ^ 32 - 1) * suc k = mul-le-mul_left (min a (2 ^ 32 - 1)) (omega arith) in
    ap (λ n. n * suc k) (uncut a (omega (arith, once, small)))

-- a sum of terms each of which is so many times another and a share more, where it is small
sum_longer : {X : Type 0} (F G : X → ℕ) (f s : ℕ) → ((x : X) → F x ≤ most_ticks → F x ≡ G x * f + s)
    → (xs : List X) → sum_by F xs ≤ most_ticks → sum_by F xs ≡ sum_by G xs * f + length xs * s
sum_longer F G f s each [] small = omega (arith, zero-mul f, zero-mul s)
sum_longer F G f s each (x ∷ xs) small =
    let all = sum_by-cons F x xs in
    let first = each x (omega (arith, small, all)) in
    let rest = sum_longer F G f s each xs (omega (arith, small, all)) in
    let more : sum_by G (x ∷ xs) * f ≡ G x * f + sum_by G xs * f = ap (λ n. n * f) (sum_by-cons G x xs) ∙ add-mul (G x) (sum_by G xs) f in
    let one_more : (1 + length xs) * s ≡ s + length xs * s = add-mul 1 (length xs) s ∙ ap (λ n. n + length xs * s) (one-mul s) in
    let count : length (x ∷ xs) * s ≡ (1 + length xs) * s = ap (λ n. n * s) (omega arith) in
    omega (arith, all, first, rest, more, one_more, count)

module _ (c : RatesCluster) (f s : ℕ) where
  -- a slot in ticks of the text, and with its share in finer ones
  abbrev slot : RatesNode → ℕ
  slot n = slot_duration (bus_for c 0) n.capacity

  abbrev longer_slot : RatesNode → ℕ
  longer_slot n = slot_duration (bus_for (finer_cluster f s c) 0) n.capacity

  longer : (n : RatesNode) → longer_slot n ≤ most_ticks → longer_slot n ≡ slot n * f + s
  unfolding finer_cluster
  longer n small =
      let most : ℕ = 2 ^ 32 - 1 in
      let is : longer_slot n
      ≡ min (c.lead * f) most + (min (c.head * f) most + min (c.per_byte * f) most * n.capacity) + min (min (c.trail * f) most + s) most =
      refl in
      let lead = uncut (c.lead * f) (omega (arith, is, small)) in
      let head = uncut (c.head * f) (omega (arith, is, small)) in
      let bytes = uncut_times (c.per_byte * f) n.capacity (omega (arith, is, small)) in
      let trail = uncut (min (c.trail * f) most + s) (omega (arith, is, small)) in
      let before = uncut (c.trail * f) (omega (arith, is, trail, small)) in
      let turned : c.per_byte * f * n.capacity ≡ c.per_byte * n.capacity * f =
      mul_assoc c.per_byte f n.capacity ∙ ap (λ k. c.per_byte * k) (mul_comm f n.capacity) ∙ sym (mul_assoc c.per_byte n.capacity f) in
      omega (arith, is, lead, head, bytes, trail, before, turned, spread)
    where
      frame : ℕ
      frame = c.head + c.per_byte * n.capacity

      spread : slot n * f ≡ c.lead * f + (c.head * f + c.per_byte * n.capacity * f) + c.trail * f
      spread =
          add-mul (c.lead + frame) c.trail f
          ∙ ap (λ k. k + c.trail * f) (add-mul c.lead frame f ∙ ap (λ k. c.lead * f + k) (add-mul c.head (c.per_byte * n.capacity) f))

  all_longer : (nodes : List RatesNode) → sum_by longer_slot nodes ≤ most_ticks → sum_by longer_slot nodes ≡ sum_by slot nodes * f + length nodes * s
  all_longer = sum_longer longer_slot slot f s longer

-- a cluster with a round that is asked for
module _ (rho : Rates) (round : ℕ) (asked : rho.cluster.round ≡ Some round) where
  abbrev f : ℕ
  f = finer_ticks rho round

  abbrev rest : ℕ
  rest = rest_of rho round

  abbrev fine : Rates
  fine = in_finer_ticks f (share_of rho round) rho

  finer_is : finer rho ≡ fine
  unfolding finer
  finer_is = rw asked refl

  module _ (w : IsRates fine) where
    some_nodes : 1 ≤ length rho.nodes
    some_nodes = w.limits.nodes_least

    shared : sharing_slots rho ≡ length rho.nodes
    shared = grind (arith, w.limits.nodes_least, w.limits.nodes)

    -- the share of all slots is the rest
    all_shares : length rho.nodes * share_of rho round ≡ f * rest
    all_shares =
        let whole : rest * f % sharing_slots rho ≡ 0 = least_times_whole rest (sharing_slots rho) (omega (arith, shared, some_nodes)) in
        let none : f * rest % sharing_slots rho ≡ 0 = ap (λ k. k % sharing_slots rho) (mul_comm f rest) ∙ whole in
        ap (λ n. n * share_of rho round) (sym shared) ∙ omega (arith, div-add-mod (f * rest) (sharing_slots rho), none)

    -- so the slots are as much longer
    round_is : round_of fine ≡ round_of rho * f + f * rest
    round_is = omega (arith, all_longer rho.cluster f (share_of rho round) rho.nodes (omega (arith, w.rounds, w.cycles)), all_shares)

    within : round_of fine ≤ f * round
    unfolding finer_cluster
    within = rw asked at w.slots

    -- where they are longer than the round nothing is left, and ticks are those of the text
    nothing_left : round < round_of rho → f ≡ 1
    nothing_left over =
        let zero_rest : rest ≡ 0 = omega (arith, over) in
        let whole : 0 * (0 + 1) % sharing_slots rho ≡ 0 = ap (λ k. k % sharing_slots rho) (zero-mul 1) ∙ zero-mod (sharing_slots rho) in
        rw zero_rest (least_times_is 0 (sharing_slots rho) (omega (arith, shared, some_nodes)) 0 whole (λ i below. absurd (omega (arith, below))))

    slots_within : round_of rho ≤ round
    slots_within = elim (cases_lt round (round_of rho)) [
      | inl over ↦
          let once : f ≡ 1 = nothing_left over in
          let same = subst (λ k. round_of fine ≤ k * round) once within in
          let whole = subst (λ k. round_of fine ≡ round_of rho * k + k * rest) once round_is in
          absurd (omega (arith, over, same, whole))
      | inr few ↦ omega (arith, few)
    ]

    fine_round : round_of fine ≡ f * round
    fine_round =
        let parts : round_of rho + rest ≡ round = omega (arith, slots_within) in
        omega (arith, round_is, mul_comm (round_of rho) f, mul-add f (round_of rho) rest, ap (λ k. f * k) parts)

    finer_there : fine.cluster.finer ≡ f
    unfolding finer_cluster
    finer_there = refl

  pub round_as_asked : IsRates (finer rho) → round_of (finer rho) ≡ (finer rho).cluster.finer * round
  round_as_asked w = rw finer_is (fine_round (rw finer_is at w) ∙ ap (λ k. k * round) (sym (finer_there (rw finer_is at w))))
