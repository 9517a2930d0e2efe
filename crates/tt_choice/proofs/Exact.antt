-- The extremes are reached: by all free capacities least or greatest, and by a node directly after the prefix, or last.
use Rattle.std.proofs.Common.{◌≡◌, ◌≢◌, ℕ, zero, suc, ◌+◌, ◌-◌, ◌*◌, ◌<◌, ◌≤◌, ◌==◌, List, [], ◌∷◌, ◌++◌, length, length-append, slice_index, map, arith, inl, inr, refl, subst, ◌∙◌, sym, ap, Option, None, Some, Contains}
use Rattle.std.specs.List.{range_with_len}
use Rattle.std.proofs.lemmas.Bool.{cases_lt, eqb-false, ne_eqb, eq-eqb, lt-ltb, le-ltb}
use Rattle.std.proofs.lemmas.List.Sums.{fails_before_first, passes_at_first, position_or_len_is}
use Rattle.std.proofs.lemmas.List.FromFn.{get_or-map-range_with_len, length-map-range_with_len}
use Rattle.std.proofs.lemmas.List.Elements.{Contains-get_or}
use Rattle.std.proofs.lemmas.Grind.{common_steps, get_or_default_zero}
use Rattle.ttp_model.specs.Lists.{HasNoRepeats}
use Rattle.ttp_model.specs.Instance.{Instance, node_at}
use Rattle.ttp_model.specs.Rules.{IsInstance}
use Rattle.ttp_model.specs.Plans.{IsNodeOrder}
use Rattle.ttp_model.specs.Slots.{slot_duration, round_length, slot_start, duration}
use Rattle.ttp_model.specs.Totals.{total}
use Rattle.ttp_model.proofs.Orders.{every_node}
use Rattle.ttp_model.proofs.Totals.{total_more, total_same, part_of_total, term_in_total, list_total, take_total}
use Rattle.tt_choice.specs.Choice.{Choice, fixed_cap, Agrees, IsFixedTo, IsOption, IsChoice}
use Rattle.tt_choice.specs.Extremes.{IsLeastOf, IsMostOf, start_at, end_at, cap_at, dur_at, least_option, most_option, cap_least, cap_most, dur_least, dur_most, place_of, offset_most, start_least, start_most, end_least, end_most}
use Rattle.tt_choice.proofs.Bounds.{place_le, offset_is, capacity_between, duration_between, start_between, end_between}
use Rattle.tt_choice.proofs.Extend.{AreNodes, one_more, order_of, from_parts, extend}

-- what is left of a bound
rest_total : (f : ℕ → ℕ) (bound count : ℕ) → ((k : ℕ) → k < count → f k ≤ bound) → total (λ k. bound - f k) count + total f count ≡ count * bound
rest_total f bound zero h = omega arith
rest_total f bound (suc count) h =
    let rest = rest_total f bound count (λ k lt. h k (omega arith)) in
    let last = h count (omega arith) in
    omega (arith, rest, last, total_more f count, total_more (λ k. bound - f k) count)

-- over a whole order a sum is the whole sum
order_total : (f : ℕ → ℕ) (count : ℕ) (order : List ℕ) → IsNodeOrder count order → total (λ k. f (slice_index order k)) count ≡ total f count
order_total f count order o =
    let bound = total f count in
    let part = λ (g : ℕ → ℕ). part_of_total g count order (λ k h. (o.each k (omega (arith, o.all))).node) (λ j k lt h. (o.each k (omega (arith, o.all))).first j lt) in
    let up = part f in
    let down = part (λ k. bound - f k) in
    let as_up = list_total f order in
    let as_down = list_total (λ k. bound - f k) order in
    let count_up = ap (total (λ k. f (slice_index order k))) o.all in
    let count_down = ap (total (λ k. bound - f (slice_index order k))) o.all in
    let all = rest_total f bound count (λ k h. term_in_total f count k h) in
    let listed = rest_total (λ k. f (slice_index order k)) bound count (λ k h. term_in_total f count (slice_index order k) (o.each k h).node) in
    omega (arith, up, down, as_up, as_down, count_up, count_down, all, listed)

-- Capacities that are chosen for each node.
chosen_caps : Instance → (ℕ → ℕ) → List ℕ
chosen_caps i choose = map choose (range_with_len 0 (length i.nodes))

chosen_at : (i : Instance) (choose : ℕ → ℕ) (n : ℕ) → n < length i.nodes → slice_index (chosen_caps i choose) n ≡ choose n
unfolding chosen_caps
chosen_at i choose n h = get_or-map-range_with_len choose 0 (length i.nodes) n n 0 h (omega arith)

chosen_length : (i : Instance) (choose : ℕ → ℕ) → length (chosen_caps i choose) ≡ length i.nodes
unfolding chosen_caps
chosen_length i choose = length-map-range_with_len choose 0 (length i.nodes)

IsLawfulFor : Instance → Choice → (ℕ → ℕ) → Type 0
IsLawfulFor i c choose = (n : ℕ) → n < length i.nodes → Contains (node_at i n).capacities (choose n) × IsFixedTo (fixed_cap c n) (choose n)

chosen_agrees : (i : Instance) (c : Choice) (choose : ℕ → ℕ) (order : List ℕ) → IsLawfulFor i c choose → IsNodeOrder (length i.nodes) order → ((k : ℕ) → k < length c.prefix → slice_index order k ≡ slice_index c.prefix k) → Agrees i c order (chosen_caps i choose)
unfolding IsLawfulFor
chosen_agrees i c choose order lawful nodes prefix = record {
  nodes = nodes;
  prefix = prefix;
  caps_length = chosen_length i choose;
  own = λ n h. record { own = subst (Contains (node_at i n).capacities) (sym (chosen_at i choose n h)) (lawful n h).0 };
  fixed = λ n h. subst (IsFixedTo (fixed_cap c n)) (sym (chosen_at i choose n h)) (lawful n h).1;
}

start_is : (i : Instance) (choose : ℕ → ℕ) (order : List ℕ) (n r : ℕ) → IsNodeOrder (length i.nodes) order → slot_start i.cluster order (chosen_caps i choose) n r ≡ r * total (λ k. slot_duration i.cluster (choose k)) (length i.nodes) + total (λ k. slot_duration i.cluster (choose (slice_index order k))) (place_of n order)
start_is i choose order n r o =
    let caps = chosen_caps i choose in
    let whole = list_total (slot_duration i.cluster) caps in
    let count = ap (total (λ k. slot_duration i.cluster (slice_index caps k))) (chosen_length i choose) in
    let each = total_same (λ k. slot_duration i.cluster (slice_index caps k)) (λ k. slot_duration i.cluster (choose k)) (length i.nodes) (λ k h. ap (slot_duration i.cluster) (chosen_at i choose k h)) in
    let round : round_length i.cluster caps ≡ total (λ k. slot_duration i.cluster (choose k)) (length i.nodes) = omega (arith, whole, count, each) in
    let before = total_same (λ k. duration i.cluster caps (slice_index order k)) (λ k. slot_duration i.cluster (choose (slice_index order k))) (place_of n order) (λ k h. ap (slot_duration i.cluster) (chosen_at i choose (slice_index order k) (o.each k (omega (arith, h, place_le n order, o.all))).node)) in
    omega (arith, ap (λ t. r * t) round, offset_is i caps order n, before)

-- Orders.
prefix_nodes : (i : Instance) (c : Choice) → IsChoice i c → AreNodes (length i.nodes) c.prefix
unfolding AreNodes
prefix_nodes i c ok = (ok.nodes, ok.once)

first_part : (xs ys : List ℕ) (j : ℕ) → j < length xs → slice_index (xs ++ ys) j ≡ slice_index xs j
first_part xs ys j h = grind (arith, common_steps)

last_part : (xs : List ℕ) (y : ℕ) (j : ℕ) → j ≡ length xs → slice_index (xs ++ y ∷ []) j ≡ y
last_part xs y j h = grind (arith, common_steps)

unplaced : (n : ℕ) (xs : List ℕ) → length xs ≤ place_of n xs → (j : ℕ) → j < length xs → slice_index xs j ≢ n
unplaced n xs h j lt = eqb-false _ _ (fails_before_first (λ m. m == n) xs j 0 (omega (arith, h)))

-- a node that isn't placed leaves room in the prefix
room : (i : Instance) (c : Choice) (n : ℕ) → IsChoice i c → n < length i.nodes → length c.prefix ≤ place_of n c.prefix → length c.prefix < length i.nodes
room i c n ok inside free = elim (cases_lt (length c.prefix) (length i.nodes)) [
  | inl is ↦ is
  | inr full ↦
      let there = every_node (length i.nodes) c.prefix n (order_of (length i.nodes) c.prefix (prefix_nodes i c ok) (omega (arith, full, ok.few))) inside in
      absurd (unplaced n c.prefix free there.0 there.1 (sym (get_or_default_zero c.prefix there.0 n there.1) ∙ there.2))
]

pub record Soonest (i : Instance) (c : Choice) (n : ℕ) : Type 0 where
  pub order : List ℕ
  pub nodes : IsNodeOrder (length i.nodes) order
  pub prefix : (k : ℕ) → k < length c.prefix → slice_index order k ≡ slice_index c.prefix k
  pub place : place_of n order ≡ place_of n c.prefix

soonest : (i : Instance) (c : Choice) (n : ℕ) → IsChoice i c → n < length i.nodes → Soonest i c n
soonest i c n ok inside = elim (cases_lt (place_of n c.prefix) (length c.prefix)) [
  | inl placed ↦
      let rest = extend (length i.nodes - length c.prefix) (length i.nodes) c.prefix (omega (arith, ok.few)) (prefix_nodes i c ok) in
      record {
        order = c.prefix ++ rest.0;
        nodes = rest.1;
        prefix = λ k h. first_part c.prefix rest.0 k h;
        place = position_or_len_is (λ m. m == n) (c.prefix ++ rest.0) (place_of n c.prefix) 0 (omega (arith, placed, ok.few, rest.1.all))
            (λ k lt. rw (first_part c.prefix rest.0 k (omega (arith, placed))) (fails_before_first (λ m. m == n) c.prefix k 0 lt))
            (λ lt. rw (first_part c.prefix rest.0 (place_of n c.prefix) placed) (passes_at_first (λ m. m == n) c.prefix 0 placed));
      }
  | inr free ↦
      let some = room i c n ok inside free in
      let more = one_more (length i.nodes) c.prefix n (prefix_nodes i c ok) inside (unplaced n c.prefix free) in
      let rest = extend (length i.nodes - length c.prefix - 1) (length i.nodes) (c.prefix ++ n ∷ []) (omega (arith, length-append c.prefix (n ∷ []))) more in
      let all : List ℕ = (c.prefix ++ n ∷ []) ++ rest.0 in
      let early : (k : ℕ) → k < length c.prefix → slice_index ((c.prefix ++ n ∷ []) ++ rest.0) k ≡ slice_index c.prefix k = λ k h. first_part (c.prefix ++ n ∷ []) rest.0 k (omega (arith, h, length-append c.prefix (n ∷ []))) ∙ first_part c.prefix (n ∷ []) k h in
      let here : slice_index ((c.prefix ++ n ∷ []) ++ rest.0) (length c.prefix) ≡ n = first_part (c.prefix ++ n ∷ []) rest.0 (length c.prefix) (omega (arith, length-append c.prefix (n ∷ []))) ∙ last_part c.prefix n (length c.prefix) refl in
      let at : place_of n ((c.prefix ++ n ∷ []) ++ rest.0) ≡ length c.prefix = position_or_len_is (λ m. m == n) ((c.prefix ++ n ∷ []) ++ rest.0) (length c.prefix) 0 (omega (arith, some, rest.1.all))
      (λ k lt. ne_eqb _ _ (λ is. unplaced n c.prefix free k lt (sym (early k lt) ∙ is)))
      (λ lt. eq-eqb _ _ here) in
      record {
        order = (c.prefix ++ n ∷ []) ++ rest.0;
        nodes = rest.1;
        prefix = early;
        place = omega (arith, at, free, place_le n c.prefix);
      }
]

least_lawful : (i : Instance) (c : Choice) → IsInstance i → IsChoice i c → IsLawfulFor i c (cap_least i c)
unfolding IsLawfulFor
least_lawful i c w ok n h = pick (fixed_cap c n) (ok.options n h)
  where
    pick : (o : Option ℕ) → IsOption i n o → Contains (node_at i n).capacities (least_option i n o) × IsFixedTo o (least_option i n o)
    pick None is = (Contains-get_or (node_at i n).capacities 0 0 (omega (arith, (w.capacities n h).some)), tt)
    pick (Some k) is = (is, refl)

least_at : (i : Instance) (c : Choice) (n r : ℕ) → (s : Soonest i c n) → slot_start i.cluster s.order (chosen_caps i (cap_least i c)) n r ≡ start_least i c n r
least_at i c n r s =
    let is = start_is i (cap_least i c) s.order n r s.nodes in
    let cut = ap (total (λ k. dur_least i c (slice_index s.order k))) s.place in
    let same = total_same (λ k. dur_least i c (slice_index s.order k)) (λ k. dur_least i c (slice_index c.prefix k)) (place_of n c.prefix) (λ k lt. ap (dur_least i c) (s.prefix k (omega (arith, lt, place_le n c.prefix)))) in
    let offset = take_total (dur_least i c) c.prefix (place_of n c.prefix) (place_le n c.prefix) in
    omega (arith, is, cut, same, offset)

pub start_least_is_least : (i : Instance) (c : Choice) (n r : ℕ) → IsInstance i → IsChoice i c → n < length i.nodes → IsLeastOf i c (start_at i n r) (start_least i c n r)
start_least_is_least i c n r w ok inside =
    let s = soonest i c n ok inside in
    record {
      order = s.order;
      caps = chosen_caps i (cap_least i c);
      agrees = chosen_agrees i c (cap_least i c) s.order (least_lawful i c w ok) s.nodes s.prefix;
      reached = least_at i c n r s;
      bound = λ others capacities a. (start_between i c others capacities n r w ok a inside).0;
    }

pub end_least_is_least : (i : Instance) (c : Choice) (n r : ℕ) → IsInstance i → IsChoice i c → n < length i.nodes → IsLeastOf i c (end_at i n r) (end_least i c n r)
end_least_is_least i c n r w ok inside =
    let s = soonest i c n ok inside in
    record {
      order = s.order;
      caps = chosen_caps i (cap_least i c);
      agrees = chosen_agrees i c (cap_least i c) s.order (least_lawful i c w ok) s.nodes s.prefix;
      reached = omega (arith, least_at i c n r s, ap (slot_duration i.cluster) (chosen_at i (cap_least i c) n inside));
      bound = λ others capacities a. (end_between i c others capacities n r w ok a inside).0;
    }

most_lawful : (i : Instance) (c : Choice) → IsInstance i → IsChoice i c → IsLawfulFor i c (cap_most i c)
unfolding IsLawfulFor
most_lawful i c w ok n h = pick (fixed_cap c n) (ok.options n h)
  where
    pick : (o : Option ℕ) → IsOption i n o → Contains (node_at i n).capacities (most_option i n o) × IsFixedTo o (most_option i n o)
    pick None is = (Contains-get_or (node_at i n).capacities (length (node_at i n).capacities - 1) 0 (omega (arith, (w.capacities n h).some)), tt)
    pick (Some k) is = (is, refl)

-- an order in which n stands as late as it can
pub record Latest (i : Instance) (c : Choice) (n : ℕ) : Type 0 where
  pub order : List ℕ
  pub nodes : IsNodeOrder (length i.nodes) order
  pub prefix : (k : ℕ) → k < length c.prefix → slice_index order k ≡ slice_index c.prefix k
  pub offset : total (λ k. dur_most i c (slice_index order k)) (place_of n order) ≡ offset_most i c n

headed : (count n : ℕ) (xs : List ℕ) → AreNodes count xs → n < count → ((j : ℕ) → j < length xs → slice_index xs j ≢ n) → AreNodes count (n ∷ xs)
unfolding AreNodes
headed count n xs nodes inside new = (within, once)
  where
    within : (k : ℕ) → k < length (n ∷ xs) → slice_index (n ∷ xs) k < count
    within zero h = inside
    within (suc k) h = nodes.0 k (omega arith)

    once : HasNoRepeats (n ∷ xs)
    once zero zero lt h = absurd (omega arith)
    once (suc j) zero lt h = absurd (omega arith)
    once zero (suc k) lt h = λ same. new k (omega arith) (sym same)
    once (suc j) (suc k) lt h = nodes.1 j k (omega arith) (omega arith)

-- the head goes to the end
turned : (count n : ℕ) (xs : List ℕ) → IsNodeOrder count (n ∷ xs) → n < count → IsNodeOrder count (xs ++ n ∷ [])
turned count n xs o inside = order_of count (xs ++ n ∷ []) (one_more count xs n tail inside (λ j h same. (o.each (suc j) (omega (arith, o.all, h))).first 0 (omega arith) (sym same))) (omega (arith, o.all, length-append xs (n ∷ [])))
  where
    tail : AreNodes count xs
    tail = from_parts count xs (λ k h. (o.each (suc k) (omega (arith, o.all, h))).node) (λ j k lt h. (o.each (suc k) (omega (arith, o.all, h))).first (suc j) (omega arith))

latest : (i : Instance) (c : Choice) (n : ℕ) → IsChoice i c → n < length i.nodes → Latest i c n
latest i c n ok inside = elim (cases_lt (place_of n c.prefix) (length c.prefix)) [
  | inl placed ↦
      let s = soonest i c n ok inside in
      let cut = ap (total (λ k. dur_most i c (slice_index s.order k))) s.place in
      let same = total_same (λ k. dur_most i c (slice_index s.order k)) (λ k. dur_most i c (slice_index c.prefix k)) (place_of n c.prefix) (λ k lt. ap (dur_most i c) (s.prefix k (omega (arith, lt, placed)))) in
      let offset = take_total (dur_most i c) c.prefix (place_of n c.prefix) (place_le n c.prefix) in
      record { order = s.order; nodes = s.nodes; prefix = s.prefix; offset = rw (lt-ltb _ _ placed) (omega (arith, cut, same, offset)) }
  | inr free ↦
      let some = room i c n ok inside free in
      let rest = extend (length i.nodes - length c.prefix - 1) (length i.nodes) (n ∷ c.prefix) (omega arith) (headed (length i.nodes) n c.prefix (prefix_nodes i c ok) inside (unplaced n c.prefix free)) in
      let o = turned (length i.nodes) n (c.prefix ++ rest.0) rest.1 inside in
      let long : length ((c.prefix ++ rest.0) ++ n ∷ []) ≡ length (c.prefix ++ rest.0) + 1 = length-append (c.prefix ++ rest.0) (n ∷ []) in
      let here = last_part (c.prefix ++ rest.0) n (length (c.prefix ++ rest.0)) refl in
      let at : place_of n ((c.prefix ++ rest.0) ++ n ∷ []) ≡ length (c.prefix ++ rest.0) = position_or_len_is (λ m. m == n) ((c.prefix ++ rest.0) ++ n ∷ []) (length (c.prefix ++ rest.0)) 0 (omega (arith, long))
      (λ k lt. ne_eqb _ _ (λ is. (o.each (length (c.prefix ++ rest.0)) (omega (arith, o.all, long))).first k lt (is ∙ sym here)))
      (λ lt. eq-eqb _ _ here) in
      let whole = order_total (dur_most i c) (length i.nodes) ((c.prefix ++ rest.0) ++ n ∷ []) o in
      let cut = ap (total (λ k. dur_most i c (slice_index ((c.prefix ++ rest.0) ++ n ∷ []) k))) at in
      let count : suc (length (c.prefix ++ rest.0)) ≡ length i.nodes = omega (arith, o.all, long) in
      let size = ap (total (λ k. dur_most i c (slice_index ((c.prefix ++ rest.0) ++ n ∷ []) k))) count in
      let more = total_more (λ k. dur_most i c (slice_index ((c.prefix ++ rest.0) ++ n ∷ []) k)) (length (c.prefix ++ rest.0)) in
      let last = ap (dur_most i c) here in
      record {
        order = (c.prefix ++ rest.0) ++ n ∷ [];
        nodes = o;
        prefix = λ k h. first_part (c.prefix ++ rest.0) (n ∷ []) k (omega (arith, h, length-append c.prefix rest.0)) ∙ first_part c.prefix rest.0 k h;
        offset = rw (le-ltb _ _ free) (omega (arith, whole, cut, size, more, last));
      }
]

most_at : (i : Instance) (c : Choice) (n r : ℕ) → (s : Latest i c n) → slot_start i.cluster s.order (chosen_caps i (cap_most i c)) n r ≡ start_most i c n r
most_at i c n r s = omega (arith, start_is i (cap_most i c) s.order n r s.nodes, s.offset)

pub start_most_is_most : (i : Instance) (c : Choice) (n r : ℕ) → IsInstance i → IsChoice i c → n < length i.nodes → IsMostOf i c (start_at i n r) (start_most i c n r)
start_most_is_most i c n r w ok inside =
    let s = latest i c n ok inside in
    record {
      order = s.order;
      caps = chosen_caps i (cap_most i c);
      agrees = chosen_agrees i c (cap_most i c) s.order (most_lawful i c w ok) s.nodes s.prefix;
      reached = most_at i c n r s;
      bound = λ others capacities a. (start_between i c others capacities n r w ok a inside).1;
    }

pub end_most_is_most : (i : Instance) (c : Choice) (n r : ℕ) → IsInstance i → IsChoice i c → n < length i.nodes → IsMostOf i c (end_at i n r) (end_most i c n r)
end_most_is_most i c n r w ok inside =
    let s = latest i c n ok inside in
    record {
      order = s.order;
      caps = chosen_caps i (cap_most i c);
      agrees = chosen_agrees i c (cap_most i c) s.order (most_lawful i c w ok) s.nodes s.prefix;
      reached = omega (arith, most_at i c n r s, ap (slot_duration i.cluster) (chosen_at i (cap_most i c) n inside));
      bound = λ others capacities a. (end_between i c others capacities n r w ok a inside).1;
    }

-- Capacities and durations.
pub cap_least_is_least : (i : Instance) (c : Choice) (n : ℕ) → IsInstance i → IsChoice i c → n < length i.nodes → IsLeastOf i c (cap_at n) (cap_least i c n)
cap_least_is_least i c n w ok inside =
    let s = soonest i c n ok inside in
    record {
      order = s.order;
      caps = chosen_caps i (cap_least i c);
      agrees = chosen_agrees i c (cap_least i c) s.order (least_lawful i c w ok) s.nodes s.prefix;
      reached = chosen_at i (cap_least i c) n inside;
      bound = λ others capacities a. (capacity_between i c others capacities n w a inside).0;
    }

pub cap_most_is_most : (i : Instance) (c : Choice) (n : ℕ) → IsInstance i → IsChoice i c → n < length i.nodes → IsMostOf i c (cap_at n) (cap_most i c n)
cap_most_is_most i c n w ok inside =
    let s = soonest i c n ok inside in
    record {
      order = s.order;
      caps = chosen_caps i (cap_most i c);
      agrees = chosen_agrees i c (cap_most i c) s.order (most_lawful i c w ok) s.nodes s.prefix;
      reached = chosen_at i (cap_most i c) n inside;
      bound = λ others capacities a. (capacity_between i c others capacities n w a inside).1;
    }

pub dur_least_is_least : (i : Instance) (c : Choice) (n : ℕ) → IsInstance i → IsChoice i c → n < length i.nodes → IsLeastOf i c (dur_at i n) (dur_least i c n)
dur_least_is_least i c n w ok inside =
    let s = soonest i c n ok inside in
    record {
      order = s.order;
      caps = chosen_caps i (cap_least i c);
      agrees = chosen_agrees i c (cap_least i c) s.order (least_lawful i c w ok) s.nodes s.prefix;
      reached = ap (slot_duration i.cluster) (chosen_at i (cap_least i c) n inside);
      bound = λ others capacities a. (duration_between i c others capacities n w a inside).0;
    }
