-- Which bytes capacities have together, node by node.
use Rattle.std.proofs.Common.{◌≡◌, ◌∙◌, ℕ, suc, ◌+◌, ◌-◌, ◌<◌, ◌≤◌, ◌==◌, ◌↔◌, List, [], ◌∷◌, ◌++◌, Bool, false, IsTrue, Contains, length, slice_index, slice_index_or, sum, take, arith, inl, inr, refl, sym, ap, get_or-take, length-take}
use Rattle.std.proofs.lemmas.Bool.{cases_eq, false≢true}
use Rattle.std.proofs.lemmas.Bool.Decides.{eqb_tells}
use Rattle.std.proofs.lemmas.Grind.{common_steps}
use Rattle.std.proofs.lemmas.List.{get_or_append_left, get_or_push, length_push, take_all}
use Rattle.std.proofs.lemmas.List.Elements.{Contains-get_or}
use Rattle.std.proofs.lemmas.List.Sums.{sum_by_more, sum_by_push}
use Rattle.ttp_model.specs.Instance.{Instance, node_at}
use Rattle.ttp_model.specs.Plans.{HasOwnCapacity}
use Rattle.ttp_model.specs.Rules.{IsInstance}
use Rattle.ttp_model.proofs.Totals.{list_total, total_bound}
use Rattle.plan_cycles.specs.Offered.{AreOffered}
use Rattle.plan_cycles.specs.Sums.{AreReached, AreSums, HaveSum, IsReached, most_sum}

-- without a node there is no byte
pub no_bytes : (i : Instance) (bytes : ℕ) → HaveSum i 0 bytes ↔ (bytes ≡ 0)
no_bytes i bytes = (λ have. sym have.together ∙ empty have.caps have.offered.all, λ none. record { caps = []; offered = record { all = refl; own = λ n inside. absurd (omega (arith, inside)) }; together = sym none })
  where
    empty : (caps : List ℕ) → length caps ≡ 0 → sum caps ≡ 0
    empty [] is = refl
    empty (x ∷ caps) is = absurd (omega (arith, is))

-- the place of a node's capacity among those that it offers
own_place : (i : Instance) (caps : List ℕ) (n : ℕ) → HasOwnCapacity i caps n → (k : ℕ) × (k < length (node_at i n).capacities) × (slice_index (node_at i n).capacities k ≡ slice_index caps n)
own_place i caps n own =
    let place = own.own in
    let is : slice_index (node_at i n).capacities place.0 ≡ slice_index caps n = grind (arith, common_steps, place.2) in
    (place.0, place.1, is)

module _ (i : Instance) (count bytes : ℕ) where
  -- capacities of one node more are those of the others and one of its own
  pub without_last : HaveSum i (suc count) bytes → (k : ℕ) × (k < length (node_at i count).capacities) × (slice_index (node_at i count).capacities k ≤ bytes) × HaveSum i count (bytes - slice_index (node_at i count).capacities k)
  without_last have =
      let caps = have.caps in
      let whole = take_all (count + 1) caps (omega (arith, have.offered.all)) in
      let more : sum (take (count + 1) caps) ≡ sum (take count caps) + slice_index caps count = sum_by_more (λ x. x) caps count 0 (omega (arith, have.offered.all)) in
      let place = own_place i caps count (have.offered.own count (omega arith)) in
      let total : sum (take count caps) + slice_index caps count ≡ bytes = sym more ∙ (ap sum whole ∙ have.together) in
      let front : AreOffered i count (take count caps) = record {
        all = omega (arith, length-take count caps, have.offered.all);
        own = λ n inside. record { own = rw (get_or-take count caps n 0 inside) (have.offered.own n (omega (arith, inside))).own };
      } in
      (place.0, place.1, omega (arith, place.2, total), record { caps = take count caps; offered = front; together = omega (arith, place.2, total) })

  pub with_last : (k : ℕ) → k < length (node_at i count).capacities → slice_index (node_at i count).capacities k ≤ bytes → HaveSum i count (bytes - slice_index (node_at i count).capacities k) → HaveSum i (suc count) bytes
  with_last k inside fits have =
      let last = slice_index (node_at i count).capacities k in
      let together : sum (have.caps ++ last ∷ []) ≡ bytes = omega (arith, sum_by_push (λ x. x) have.caps last, have.together, fits) in
      record {
        caps = have.caps ++ last ∷ [];
        offered = record { all = omega (arith, length_push have.caps last, have.offered.all); own = own last (Contains-get_or (node_at i count).capacities k 0 inside) };
        together = together;
      }
    where
      own : (last : ℕ) → Contains (node_at i count).capacities last → (n : ℕ) → n < suc count → HasOwnCapacity i (have.caps ++ last ∷ []) n
      own last offers n below = elim (cases_eq n count) [
        | inl same ↦ rw same (record { own = rw (get_or_push have.caps last 0 count have.offered.all) offers })
        | inr other ↦
            let before : n < count = omega (arith, below, other) in
            record { own = rw (get_or_append_left have.caps (last ∷ []) 0 n (omega (arith, before, have.offered.all))) (have.offered.own n before).own }
      ]

-- what a list tells of each number below a count, with one element more
pub known_more : (Holds : ℕ → Type 0) (known : List Bool) (count : ℕ) (next : Bool) → length known ≡ count → ((k : ℕ) → k < count → IsTrue (slice_index_or known k false) ↔ Holds k) → IsTrue next ↔ Holds count
    → (k : ℕ) → k < count + 1 → IsTrue (slice_index_or (known ++ next ∷ []) k false) ↔ Holds k
known_more Holds known count next all each last k inside = elim (cases_eq k count) [
  | inl same ↦ rw (same, get_or_push known next false count all) last
  | inr other ↦
      let before : k < count = omega (arith, inside, other) in
      rw (get_or_append_left known (next ∷ []) false k (omega (arith, before, all))) (each k before)
]

pub reached_more : (before : List Bool) (capacities : List ℕ) (count : ℕ) (sums : List Bool) (next : Bool) → AreReached before capacities count sums → IsTrue next ↔ IsReached before capacities count
    → AreReached before capacities (count + 1) (sums ++ next ∷ [])
reached_more before capacities count sums next are is = record {
  all = omega (arith, length_push sums next, are.all);
  each = known_more (IsReached before capacities) sums count next are.all are.each is;
}

-- what is known of each sum with one node more
pub sums_more : (i : Instance) (count : ℕ) (before after : List Bool) → AreSums i count before → AreReached before (node_at i count).capacities (length before) after → AreSums i (suc count) after
sums_more i count before after are reached = record {
  all = omega (arith, reached.all, are.all);
  each = λ bytes inside.
      let step = reached.each bytes (omega (arith, inside, are.all)) in (
        λ is. (let by = step.0 is in with_last i count bytes by.0 by.1 by.2.0 ((are.each (bytes - slice_index (node_at i count).capacities by.0) (omega (arith, inside))).0 by.2.1)),
        λ have. (let by = without_last i count bytes have in step.1 (by.0, by.1, (by.2, (are.each (bytes - slice_index (node_at i count).capacities by.0) (omega (arith, inside))).1 by.3))),
      );
}

-- none is above the greatest
pub sum-le : (i : Instance) (bytes : ℕ) → IsInstance i → HaveSum i (length i.nodes) bytes → bytes ≤ most_sum
sum-le i bytes w have =
    let caps = have.caps in
    let each = λ (n : ℕ) (inside : n < length caps). small n (omega (arith, inside, have.offered.all)) in
    omega (arith, have.together, list_total (λ x. x) caps, total_bound (λ n. slice_index caps n) 1000 (length caps) each, have.offered.all, w.limits.nodes)
  where
    small : (n : ℕ) → n < length i.nodes → slice_index have.caps n ≤ 1000
    small n inside =
        let place = own_place i have.caps n (have.offered.own n inside) in
        omega (arith, place.2, (w.capacities n inside).small place.0 0 place.1)

-- the test of a number tells whether it is none
pub none_tells : (bytes : ℕ) → IsTrue (bytes == 0) ↔ (bytes ≡ 0)
none_tells bytes = elim (eqb_tells bytes 0) [
  | inl none ↦ (λ _. none.1, λ _. none.0)
  | inr some ↦ (λ is. absurd (false≢true (sym some.0 ∙ is)), λ is. absurd (some.1 is))
]

-- the sums without a node
pub sums_of_none : (sums : List Bool) → length sums ≡ most_sum + 1 → ((bytes : ℕ) → bytes < most_sum + 1 → IsTrue (slice_index_or sums bytes false) ↔ (bytes ≡ 0)) → (i : Instance) → AreSums i 0 sums
sums_of_none sums all known i = record {
  all = all;
  each = λ bytes inside. (λ is. (no_bytes i bytes).1 ((known bytes inside).0 is), λ have. (known bytes inside).1 ((no_bytes i bytes).0 have));
}
