-- A round of the plan is the round of the cluster, since each node has one capacity; and ticks tell rounds and cycles.
use Rattle.std.proofs.Common.{◌≡◌, ◌≢◌, ◌∙◌, ℕ, zero, suc, ◌+◌, ◌*◌, ◌<◌, ◌≤◌, List, [], ◌∷◌, length, slice_index, slice_index_or, map, sum_by, Contains, arith, inl, inr, refl, sym, ap, ap₂}
use Rattle.std.proofs.Math.Nat.{mul-le-mul_left}
use Rattle.std.proofs.lemmas.Bool.{cases_lt, cases_order}
use Rattle.std.proofs.lemmas.List.{length-map}
use Rattle.std.proofs.lemmas.List.Sums.{sum_by-cons}
use Rattle.ttp_model.specs.declared.parts.Node.{Node}
use Rattle.ttp_model.specs.declared.plan.Plan.{Plan}
use Rattle.ttp_model.specs.Instance as instance
use Rattle.ttp_model.specs.Plans.{Capacities, HasOwnCapacity, Keeps, Lengths}
use Rattle.ttp_model.specs.Slots.{round_length, slot_duration}
use Rattle.rates_model.specs.declared.parts.RatesNode.{RatesNode}
use Rattle.rates_model.specs.Rates.{Rates, no_node}
use Rattle.rates_model.specs.Cycles.{round_of}
use Rattle.endless_schedules.specs.Unrolled.{unrolled, unrolled_node}
use Rattle.endless_schedules.specs.Sent.{bus_of}
use Rattle.endless_schedules.proofs.MappedAt.{mapped_at}

-- sums of the same terms
same_sums : {X Y : Type 0} (f : X → ℕ) (g : Y → ℕ) (xs : List X) (ys : List Y) (d : X) (e : Y) → length xs ≡ length ys
    → ((k : ℕ) → k < length xs → f (slice_index_or xs k d) ≡ g (slice_index_or ys k e)) → sum_by f xs ≡ sum_by g ys
same_sums f g [] [] d e long same = refl
same_sums f g [] (y ∷ ys) d e long same = absurd (omega (arith, long))
same_sums f g (x ∷ xs) [] d e long same = absurd (omega (arith, long))
same_sums f g (x ∷ xs) (y ∷ ys) d e long same =
    let rest = same_sums f g xs ys d e (omega (arith, long)) (λ k inside. same (suc k) (omega (arith, inside))) in
    omega (arith, sum_by-cons f x xs, sum_by-cons g y ys, rest, same 0 (omega arith))

only_one : (x y : ℕ) → Contains (x ∷ []) y → y ≡ x
only_one x y has = sym (at has.0 has.1 has.2)
  where
    at : (k : ℕ) → k < 1 → slice_index_or (x ∷ []) k y ≡ y → x ≡ y
    at zero inside is = is
    at (suc k) inside is = absurd (omega (arith, inside))

module _ (rho : Rates) (plan : Plan) (lengths : Keeps (unrolled rho) plan Lengths) (own : Keeps (unrolled rho) plan Capacities) where
  node_is : (n : ℕ) → n < length rho.nodes → (instance.node_at (unrolled rho) n).capacities ≡ (slice_index_or rho.nodes n no_node).capacity ∷ []
  unfolding unrolled_node
  node_is n inside = ap (λ (x : Node). x.capacities) (mapped_at unrolled_node rho.nodes n no_node instance.no_node inside)

  many_nodes : length (unrolled rho).nodes ≡ length rho.nodes
  many_nodes = length-map rho.nodes unrolled_node

  capacity_is : (n : ℕ) → n < length rho.nodes → slice_index plan.caps n ≡ (slice_index_or rho.nodes n no_node).capacity
  capacity_is n inside =
      let capacity = (slice_index_or rho.nodes n no_node).capacity in
      let has : Contains (capacity ∷ []) (slice_index plan.caps n) = rw (node_is n inside) at (own n (omega (arith, inside, many_nodes))).own in
      only_one capacity (slice_index plan.caps n) has

  pub round_is : round_length (bus_of rho) plan.caps ≡ round_of rho
  round_is =
      let long : length plan.caps ≡ length rho.nodes = omega (arith, lengths.capacities, many_nodes) in
      same_sums (slot_duration (bus_of rho)) (λ (n : RatesNode). slot_duration (bus_of rho) n.capacity) plan.caps rho.nodes 0 no_node long
      (λ n inside. ap (slot_duration (bus_of rho)) (capacity_is n (omega (arith, inside, long))))

-- what is over within a cycle is over before any later one begins
pub earlier_cycle : (period c d ticks : ℕ) → ticks ≤ period → c < d → c * period + ticks ≤ d * period
earlier_cycle period c d ticks fits earlier =
    let next : period * suc c ≤ period * d = mul-le-mul_left period earlier in
    omega (arith, next, fits)

-- rounds that take fewer ticks are fewer
pub fewer_rounds : (r k round : ℕ) → r * round < k * round → r < k
fewer_rounds r k round less = elim (cases_lt r k) [
  | inl below ↦ below
  | inr above ↦ (let more : round * k ≤ round * r = mul-le-mul_left round above in absurd (omega (arith, less, more)))
]

earlier_tick : (period round many c d r s : ℕ) → 0 < round → many * round ≤ period → s < many → d < c → d * period + s * round < c * period + r * round
earlier_tick period round many c d r s some fits inside earlier =
    let more : round * suc s ≤ round * many = mul-le-mul_left round inside in
    let next : period * suc d ≤ period * c = mul-le-mul_left period earlier in
    omega (arith, more, next, fits, some)

same_rounds : (round r s : ℕ) → 0 < round → r * round ≡ s * round → r ≡ s
same_rounds round r s some same = elim (cases_order r s) [
  | inl is ↦ is
  | inr other ↦ elim other [
    | inl below ↦ (let more : round * suc r ≤ round * s = mul-le-mul_left round below in absurd (omega (arith, same, more, some)))
    | inr above ↦ (let more : round * suc s ≤ round * r = mul-le-mul_left round above in absurd (omega (arith, same, more, some)))
  ]
]

-- two rounds that begin at the same tick are one, of one cycle
pub same_begin : (period round many c d r s : ℕ) → 0 < round → many * round ≤ period → r < many → s < many → d * period + s * round ≡ c * period + r * round → (d ≡ c) × (s ≡ r)
same_begin period round many c d r s some fits first second same = elim (cases_order d c) [
  | inl is ↦ (let moved = ap (λ x. x * period) is in (is, same_rounds round s r some (omega (arith, same, moved))))
  | inr other ↦ elim other [
    | inl below ↦ absurd (omega (arith, same, earlier_tick period round many c d r s some fits second below))
    | inr above ↦ absurd (omega (arith, same, earlier_tick period round many d c s r some fits first above))
  ]
]
