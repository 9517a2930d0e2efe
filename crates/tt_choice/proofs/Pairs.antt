-- How many pairs of one node are in neither order, after one of them is ordered.
use Rattle.std.proofs.Common.{◌≡◌, ◌≢◌, ℕ, ◌+◌, ◌*◌, ◌<◌, ◌⊎◌, ◌==◌, ◌||◌, if◌then◌else◌, length, true, false, arith, inl, inr, refl, ap, sym, ◌∙◌}
use Rattle.std.proofs.lemmas.Bool.{cases_eq, cases_order, eq-eqb, ne_eqb, or_left, or_right, and_right}
use Rattle.ttp_model.specs.Instance.{Instance, node_of}
use Rattle.ttp_model.specs.Totals.{total}
use Rattle.ttp_model.proofs.Totals.{total_one_less, total_same, total_next}
use Rattle.tt_choice.specs.Choice.{Choice, is_before, is_unordered, unordered_below, unordered_pairs, ArePair, IsChoice}
use Rattle.tt_choice.specs.Branches.{open_choice, order_pair, IsUnorderedPair}
use Rattle.tt_choice.proofs.Before.{put_same, put_other, nothing_goes}

-- 1 for a pair in neither order
unfoldable pub count_of : Instance → Choice → ℕ → ℕ → ℕ
count_of i c p q = if is_unordered i c p q then 1 else 0

below_is : (i : Instance) (c : Choice) (p : ℕ) → unordered_below i c p ≡ total (count_of i c p) p
unfolding count_of
below_is i c p = refl

-- sums of rows differ by one where one entry does
one_less : (f g : ℕ → ℕ → ℕ) (count p q : ℕ) → q < p → p < count → ((j k : ℕ) → k < j → (j ≢ p) ⊎ (k ≢ q) → f j k ≡ g j k) → f p q + 1 ≡ g p q → total (λ j. total (f j) j) count + 1 ≡ total (λ j. total (g j) j) count
one_less f g count p q below inside others here =
    total_one_less (λ j. total (f j) j) (λ j. total (g j) j) count p inside
    (λ j lt differ. total_same (f j) (g j) j (λ k under. others j k under (inl differ)))
    (total_one_less (f p) (g p) p q below (λ k under differ. others p k under (inr differ)) here)

-- a pair that is ordered, either way
pub ordered_count : (i : Instance) (c : Choice) (p q : ℕ) → (is_before c p q || is_before c q p) ≡ true → count_of i c p q ≡ 0
unfolding count_of
ordered_count i c p q holds = rw (holds, and_right (node_of i p == node_of i q) false refl) refl

pub free_count : (i : Instance) (c : Choice) (p q : ℕ) → node_of i p ≡ node_of i q → is_before c p q ≡ false → is_before c q p ≡ false → count_of i c p q ≡ 1
unfolding count_of
free_count i c p q same one other = rw (eq-eqb _ _ same, one, other) refl

-- processes of two nodes
pub strange_count : (i : Instance) (c : Choice) (p q : ℕ) → (node_of i p == node_of i q) ≡ false → count_of i c p q ≡ 0
unfolding count_of
strange_count i c p q apart = rw apart refl

same_count : (i : Instance) (c d : Choice) (p q : ℕ) → is_before c p q ≡ is_before d p q → is_before c q p ≡ is_before d q p → count_of i c p q ≡ count_of i d p q
unfolding count_of
same_count i c d p q one other = rw (one, other) refl

-- the tests of a choice after p was put before q
pub pair_now : (i : Instance) (c : Choice) (p q : ℕ) → IsChoice i c → ArePair i p q → is_before (order_pair c p q) p q ≡ true
pair_now i c p q ok pair =
    put_same c.before p q (omega (arith, ok.processes, pair.first)) (omega (arith, ok.processes, pair.second)) (ok.tests ∙ ap (λ n. n * n) (sym ok.processes))

pub pair_then : (i : Instance) (c : Choice) (p q j k : ℕ) → IsChoice i c → ArePair i p q → (j ≢ p) ⊎ (k ≢ q) → is_before (order_pair c p q) j k ≡ is_before c j k
pair_then i c p q j k ok pair other = put_other c.before p q j k (omega (arith, ok.processes, pair.first)) (omega (arith, ok.processes, pair.second)) other

pub order_pair_left : (i : Instance) (c : Choice) (p q : ℕ) → IsChoice i c → IsUnorderedPair i c p q → unordered_pairs i (order_pair c p q) + 1 ≡ unordered_pairs i c
unfolding count_of
order_pair_left i c p q ok is = elim (cases_order p q) [
  | inl same ↦ absurd (is.pair.two same)
  | inr apart ↦ elim apart [
    | inl up ↦ one_less (count_of i (order_pair c p q)) (count_of i c) (length i.processes) q p up is.pair.second
        (λ j k under differ. same_count i (order_pair c p q) c j k
        (pair_then i c p q j k ok is.pair (not_turned j k up under))
        (pair_then i c p q k j ok is.pair (turned j k differ)))
        (omega (arith, ordered_count i (order_pair c p q) q p (or_right _ _ (pair_now i c p q ok is.pair)), free_count i c q p (sym is.pair.one_node) is.not_after is.not_before))
    | inr down ↦ one_less (count_of i (order_pair c p q)) (count_of i c) (length i.processes) p q down is.pair.first
        (λ j k under differ. same_count i (order_pair c p q) c j k
        (pair_then i c p q j k ok is.pair differ)
        (pair_then i c p q k j ok is.pair (not_down j k down under)))
        (omega (arith, ordered_count i (order_pair c p q) p q (or_left _ _ (pair_now i c p q ok is.pair)), free_count i c p q is.pair.one_node is.not_before is.not_after))
  ]
]
  where
    not_turned : (j k : ℕ) → p < q → k < j → (j ≢ p) ⊎ (k ≢ q)
    not_turned j k up under = elim (cases_eq j p) [ inl same ↦ inr (omega arith) | inr differ ↦ inl differ ]

    turned : (j k : ℕ) → (j ≢ q) ⊎ (k ≢ p) → (k ≢ p) ⊎ (j ≢ q)
    turned j k (inl row) = inr row
    turned j k (inr column) = inl column

    not_down : (j k : ℕ) → q < p → k < j → (k ≢ p) ⊎ (j ≢ q)
    not_down j k down under = elim (cases_eq k p) [ inl same ↦ inr (omega arith) | inr differ ↦ inl differ ]

-- Before anything is ordered, one more process q below p.
pub count_same : (i : Instance) (p q n : ℕ) → node_of i q ≡ node_of i p → n ≡ total (λ k. if is_unordered i (open_choice i 0) p k then 1 else 0) q → n + 1 ≡ total (λ k. if is_unordered i (open_choice i 0) p k then 1 else 0) (q + 1)
unfolding count_of
count_same i p q n same is =
    let one = free_count i (open_choice i 0) p q (sym same) (nothing_goes (length i.processes) p q) (nothing_goes (length i.processes) q p) in
    omega (arith, is, one, total_next (count_of i (open_choice i 0) p) q)

pub count_other : (i : Instance) (p q n : ℕ) → node_of i q ≢ node_of i p → n ≡ total (λ k. if is_unordered i (open_choice i 0) p k then 1 else 0) q → n ≡ total (λ k. if is_unordered i (open_choice i 0) p k then 1 else 0) (q + 1)
unfolding count_of
count_other i p q n differ is =
    let none : count_of i (open_choice i 0) p q ≡ 0 = rw (ne_eqb _ _ (λ same. differ (sym same))) refl in
    omega (arith, is, none, total_next (count_of i (open_choice i 0) p) q)
