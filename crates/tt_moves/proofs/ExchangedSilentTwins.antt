-- Silent twins that exchange their positions and capacities: the plan stays valid.
use Rattle.std.proofs.Common.{◌≡◌, ◌≢◌, ℕ, suc, ◌+◌, ◌*◌, ◌<◌, ◌==◌, List, [], ◌∷◌, length, slice_index, sum_by, arith, inl, inr, refl, ◌⊎◌, subst, ◌∙◌, sym, ap, Contains, swap, ◌↔◌}
use Rattle.std.specs.List.{before_first}
use Rattle.std.proofs.lemmas.Bool.{cases_eq, cases_order, eq-eqb}
use Rattle.std.proofs.lemmas.List.Edits.{length-swap}
use Rattle.std.proofs.lemmas.List.Sorted.{sum_by-IsPermutation, IsPermutation-swap}
use Rattle.ttp_model.specs.declared.plan.Plan.{Plan}
use Rattle.ttp_model.specs.Instance.{Instance, node_at, source_of}
use Rattle.ttp_model.specs.Slots.{slot_duration, duration, round_length, offset, slot_start, slot_end}
use Rattle.ttp_model.specs.Twins.{AreSilentTwins}
use Rattle.ttp_model.specs.Plans.{IsValid, IsNodeOrder, IsNewNode, HasOwnCapacity, round_of}
use Rattle.ttp_model.specs.Moves.{exchanged, position_of}
use Rattle.ttp_model.proofs.Positions.{position_inside}
use Rattle.ttp_model.proofs.Totals.{before_other}
use Rattle.tt_moves.proofs.Swaps.{swap_rest, gets_from, swap_at, gets_alike, gets_below, gets_apart}

-- no node stands twice in an order
stand_apart : (count : ℕ) (order : List ℕ) → IsNodeOrder count order → (j k : ℕ) → j < count → k < count → j ≢ k → slice_index order j ≢ slice_index order k
stand_apart count order o j k hj hk two same = elim (cases_order j k) [
  | inl is ↦ two is
  | inr apart ↦ elim apart [
    | inl below ↦ (o.each k hk).first j below same
    | inr above ↦ (o.each j hj).first k above (sym same)
  ]
]

-- the sum before n, where two lists have n at the same places and terms alike
same_before : (f g : ℕ → ℕ) (n : ℕ) (xs ys : List ℕ) → length xs ≡ length ys → ((k : ℕ) → k < length xs → f (slice_index xs k) ≡ g (slice_index ys k)) → ((k : ℕ) → k < length xs → (slice_index xs k ≡ n) ↔ (slice_index ys k ≡ n)) → sum_by f (before_first (λ m. m == n) xs) ≡ sum_by g (before_first (λ m. m == n) ys)
same_before f g n [] [] long terms tells = refl
same_before f g n [] (y ∷ ys) long terms tells = absurd (omega (arith, long))
same_before f g n (x ∷ xs) [] long terms tells = absurd (omega (arith, long))
same_before f g n (x ∷ xs) (y ∷ ys) long terms tells = elim (cases_eq x n) [
  | inl same ↦ none_before f x xs same ∙ sym (none_before g y ys ((tells 0 (omega arith)).0 same))
  | inr other ↦
      let other_y : y ≢ n = λ is. other ((tells 0 (omega arith)).1 is) in
      let rest = same_before f g n xs ys (omega (arith, long)) (λ k h. terms (suc k) (omega (arith, h))) (λ k h. tells (suc k) (omega (arith, h))) in
      let first : f x ≡ g y = terms 0 (omega arith) in
      omega (arith, before_other f n x xs other, before_other g n y ys other_y, rest, first)
]
  where
    none_before : (h : ℕ → ℕ) (z : ℕ) (zs : List ℕ) → z ≡ n → sum_by h (before_first (λ m. m == n) (z ∷ zs)) ≡ 0
    none_before h z zs same = rw (eq-eqb z n same) refl

module _ (i : Instance) (plan : Plan) (u v : ℕ) (valid : IsValid i plan) (twins : AreSilentTwins i u v) where
  abbrev place_u : ℕ
  place_u = position_of plan u

  abbrev place_v : ℕ
  place_v = position_of plan v

  abbrev moved_order : List ℕ
  moved_order = swap plan.order place_u place_v

  abbrev moved_caps : List ℕ
  moved_caps = swap plan.caps u v

  u_stands : (place_u < length plan.order) × (slice_index plan.order place_u ≡ u)
  u_stands = position_inside i plan valid u twins.u_is

  v_stands : (place_v < length plan.order) × (slice_index plan.order place_v ≡ v)
  v_stands = position_inside i plan valid v twins.v_is

  place_u_in : place_u < length i.nodes
  place_u_in = omega (arith, u_stands.0, valid.order.all)

  place_v_in : place_v < length i.nodes
  place_v_in = omega (arith, v_stands.0, valid.order.all)

  u_is : u < length plan.caps
  u_is = omega (arith, twins.u_is, valid.lengths.capacities)

  v_is : v < length plan.caps
  v_is = omega (arith, twins.v_is, valid.lengths.capacities)

  two : place_u ≢ place_v
  two is = twins.two (sym u_stands.1 ∙ ap (slice_index plan.order) is ∙ v_stands.1)

  each : (k : ℕ) → k < length i.nodes → IsNewNode (length i.nodes) moved_order k
  each k h =
      let x = gets_from place_u place_v k in
      let x_is = gets_below place_u place_v (length i.nodes) place_u_in place_v_in k x.0 h x.1 in
      let here = swap_at plan.order place_u place_v u_stands.0 v_stands.0 k x.0 x.1 in
      record {
        node = omega (arith, here, (valid.order.each x.0 x_is).node);
        first = λ j lt same.
            let y = gets_from place_u place_v j in
            let y_is = gets_below place_u place_v (length i.nodes) place_u_in place_v_in j y.0 (omega (arith, lt, h)) y.1 in
            let there = swap_at plan.order place_u place_v u_stands.0 v_stands.0 j y.0 y.1 in
            stand_apart (length i.nodes) plan.order valid.order y.0 x.0 y_is x_is (gets_apart place_u place_v two j k y.0 x.0 (omega (arith, lt)) y.1 x.1) (sym there ∙ same ∙ here);
      }

  capacities : (n : ℕ) → n < length i.nodes → HasOwnCapacity i moved_caps n
  capacities n h =
      let x = gets_from u v n in
      let own = (valid.capacities x.0 (gets_below u v (length i.nodes) twins.u_is twins.v_is n x.0 h x.1)).own in
      let list = gets_alike (λ (k : ℕ). (node_at i k).capacities) u v twins.capacities n x.0 x.1 in
      let here = swap_at plan.caps u v u_is v_is n x.0 x.1 in
      record { own = subst (λ (k : ℕ). Contains (node_at i n).capacities k) (sym here) (subst (λ (ks : List ℕ). Contains ks (slice_index plan.caps x.0)) (sym list) own) }

  same_cap : (n : ℕ) → n ≢ u → n ≢ v → slice_index moved_caps n ≡ slice_index plan.caps n
  same_cap n not_u not_v = swap_rest plan.caps u v n not_u not_v u_is v_is

  -- at a place of the order stands v for u, u for v, or what stood there
  stood : (k : ℕ) → k < length i.nodes → ((slice_index plan.order k ≡ u) × (slice_index moved_order k ≡ v)) ⊎ (((slice_index plan.order k ≡ v) × (slice_index moved_order k ≡ u)) ⊎ ((slice_index plan.order k ≢ u) × (slice_index plan.order k ≢ v) × (slice_index moved_order k ≡ slice_index plan.order k)))
  stood k h = elim (cases_eq k place_u) [
    | inl at_u ↦ inl (ap (slice_index plan.order) at_u ∙ u_stands.1, swap_at plan.order place_u place_v u_stands.0 v_stands.0 k place_v (inl (at_u, refl)) ∙ v_stands.1)
    | inr not_u ↦ elim (cases_eq k place_v) [
      | inl at_v ↦ inr (inl (ap (slice_index plan.order) at_v ∙ v_stands.1, swap_at plan.order place_u place_v u_stands.0 v_stands.0 k place_u (inr (inl (at_v, refl))) ∙ u_stands.1))
      | inr not_v ↦ inr (inr (
        (λ is. stand_apart (length i.nodes) plan.order valid.order k place_u h place_u_in not_u (is ∙ sym u_stands.1)),
        (λ is. stand_apart (length i.nodes) plan.order valid.order k place_v h place_v_in not_v (is ∙ sym v_stands.1)),
        swap_at plan.order place_u place_v u_stands.0 v_stands.0 k k (inr (inr (not_u, not_v, refl))),
      ))
    ]
  ]

  -- in a slot as long as before
  same_length : (k : ℕ) → k < length i.nodes → duration i.cluster moved_caps (slice_index moved_order k) ≡ duration i.cluster plan.caps (slice_index plan.order k)
  same_length k h = elim (stood k h) [
    | inl is ↦ ap (duration i.cluster moved_caps) is.1 ∙ ap (slot_duration i.cluster) (swap_at plan.caps u v u_is v_is v u (inr (inl (refl, refl)))) ∙ sym (ap (duration i.cluster plan.caps) is.0)
    | inr others ↦ elim others [
      | inl is ↦ ap (duration i.cluster moved_caps) is.1 ∙ ap (slot_duration i.cluster) (swap_at plan.caps u v u_is v_is u v (inl (refl, refl))) ∙ sym (ap (duration i.cluster plan.caps) is.0)
      | inr is ↦ ap (duration i.cluster moved_caps) is.2 ∙ ap (slot_duration i.cluster) (same_cap (slice_index plan.order k) is.0 is.1)
    ]
  ]

  -- and each other node stands where it stood
  same_place : (n : ℕ) → n ≢ u → n ≢ v → (k : ℕ) → k < length i.nodes → (slice_index moved_order k ≡ n) ↔ (slice_index plan.order k ≡ n)
  same_place n not_u not_v k h = elim (stood k h) [
    | inl is ↦ ((λ now. absurd (not_v (sym now ∙ is.1))), (λ was. absurd (not_u (sym was ∙ is.0))))
    | inr others ↦ elim others [
      | inl is ↦ ((λ now. absurd (not_u (sym now ∙ is.1))), (λ was. absurd (not_v (sym was ∙ is.0))))
      | inr is ↦ ((λ now. sym is.2 ∙ now), (λ was. is.2 ∙ was))
    ]
  ]

  order_long : length moved_order ≡ length plan.order
  order_long = length-swap plan.order place_u place_v

  -- so slots begin and end when they did
  same_offset : (n : ℕ) → n ≢ u → n ≢ v → offset i.cluster moved_order moved_caps n ≡ offset i.cluster plan.order plan.caps n
  same_offset n not_u not_v =
      same_before (duration i.cluster moved_caps) (duration i.cluster plan.caps) n moved_order plan.order order_long
      (λ k h. same_length k (omega (arith, h, order_long, valid.order.all)))
      (λ k h. same_place n not_u not_v k (omega (arith, h, order_long, valid.order.all)))

  same_start : (n r : ℕ) → n ≢ u → n ≢ v → slot_start i.cluster moved_order moved_caps n r ≡ slot_start i.cluster plan.order plan.caps n r
  same_start n r not_u not_v =
      ap (λ (long : ℕ). r * long + offset i.cluster moved_order moved_caps n) (sum_by-IsPermutation (slot_duration i.cluster) plan.caps moved_caps (IsPermutation-swap plan.caps moved_caps u v u_is v_is refl))
      ∙ ap (λ (far : ℕ). r * round_length i.cluster plan.caps + far) (same_offset n not_u not_v)

  same_end : (n r : ℕ) → n ≢ u → n ≢ v → slot_end i.cluster moved_order moved_caps n r ≡ slot_end i.cluster plan.order plan.caps n r
  same_end n r not_u not_v =
      ap (λ (from : ℕ). from + duration i.cluster moved_caps n) (same_start n r not_u not_v)
      ∙ ap (λ (long : ℕ). slot_start i.cluster plan.order plan.caps n r + long) (ap (slot_duration i.cluster) (same_cap n not_u not_v))

  pub exchanged_valid : IsValid i (exchanged plan u v)
  exchanged_valid = record {
    lengths = record {
      order = order_long ∙ valid.lengths.order;
      capacities = length-swap plan.caps u v ∙ valid.lengths.capacities;
      starts = valid.lengths.starts;
      rounds = valid.lengths.rounds;
      channels = valid.lengths.channels;
    };
    order = record { all = order_long ∙ valid.order.all; each = each };
    capacities = capacities;
    released = valid.released;
    in_time = valid.in_time;
    apart = valid.apart;
    links = valid.links;
    ready = λ m h. omega (arith, valid.ready m h, same_start (source_of i m) (round_of plan m) (twins.u_silent m h) (twins.v_silent m h));
    arrived = λ m h k lt. omega (arith, valid.arrived m h k lt, same_end (source_of i m) (round_of plan m) (twins.u_silent m h) (twins.v_silent m h));
    frames = λ m h c within on. omega (arith, valid.frames m h c within on, same_cap (source_of i m) (twins.u_silent m h) (twins.v_silent m h));
    on_own = valid.on_own;
  }
