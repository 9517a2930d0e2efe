-- A process that goes before another and has no lower rank is in a ring.
use Rattle.std.proofs.Common.{◌≡◌, ◌≢◌, ℕ, zero, suc, ◌+◌, ◌<◌, ◌≤◌, ◌⊎◌, if◌then◌else◌, [], ◌∷◌, length, slice_index, true, false, IsTrue, IsFalse, Option, None, Some, IsSome, IfNone, arith, inl, inr, refl, sym, ◌∙◌}
use Rattle.std.proofs.lemmas.Bool.{cases_Bool, cases_order, both_ways}
use Rattle.ttp_model.specs.Instance.{Instance, link_at}
use Rattle.ttp_model.specs.Totals.{total}
use Rattle.ttp_model.proofs.Totals.{total_less, total_next}
use Rattle.tt_choice.specs.Choice.{Choice, is_before, ArePair, IsChoice, IsComplete}
use Rattle.earliest_starts.specs.Fixed.{GoesAhead}
use Rattle.earliest_starts.specs.Clashes.{IsWaitingRing}
use Rattle.earliest_starts.specs.Ranks.{rank}

-- in a complete choice one of two processes of a node goes before the other
pub one_before : (i : Instance) (c : Choice) (p q : ℕ) → IsComplete i c → ArePair i p q → IsTrue (is_before c p q) ⊎ IsTrue (is_before c q p)
one_before i c p q done pair = elim (cases_order p q) [
  | inl same ↦ absurd (pair.two same)
  | inr apart ↦ elim apart [
    | inl up ↦ elim (done.ordered q p up pair.second (sym pair.one_node)) [ inl back ↦ inr back | inr forth ↦ inl forth ]
    | inr down ↦ done.ordered p q down pair.first pair.one_node
  ]
]

-- 1 for a process that goes before p
unfoldable pub counted : Choice → ℕ → ℕ → ℕ
counted c p q = if is_before c q p then 1 else 0

pub rank_next : (c : Choice) (p q n : ℕ) → n ≡ total (λ r. if is_before c r p then 1 else 0) q → is_before c q p ≡ true → n + 1 ≡ total (λ r. if is_before c r p then 1 else 0) (q + 1)
unfolding counted
rank_next c p q n is holds =
    let one : counted c p q ≡ 1 = rw holds refl in
    omega (arith, is, one, total_next (counted c p) q)

pub rank_stays : (c : Choice) (p q n : ℕ) → n ≡ total (λ r. if is_before c r p then 1 else 0) q → is_before c q p ≡ false → n ≡ total (λ r. if is_before c r p then 1 else 0) (q + 1)
unfolding counted
rank_stays c p q n is not =
    let none : counted c p q ≡ 0 = rw not refl in
    omega (arith, is, none, total_next (counted c p) q)

counted_le : (c : Choice) (p q r : ℕ) → (IsTrue (is_before c r p) → IsTrue (is_before c r q)) → counted c p r ≤ counted c q r
unfolding counted
counted_le c p q r carries = elim (cases_Bool (is_before c r p)) [
  | inl is ↦ rw (is, carries is) (omega arith)
  | inr not ↦ rw not (omega arith)
]

pub counted_one : (c : Choice) (p q : ℕ) → counted c p q ≤ 1
unfolding counted
counted_one c p q = elim (cases_Bool (is_before c q p)) [ inl is ↦ rw is (omega arith) | inr not ↦ rw not (omega arith) ]

-- no process goes before itself
pub not_itself : (i : Instance) (c : Choice) (p : ℕ) → IsChoice i c → IsFalse (is_before c p p)
not_itself i c p ok = elim (cases_Bool (is_before c p p)) [
  | inl is ↦ absurd ((ok.pairs p p is).two refl)
  | inr not ↦ not
]

-- where all that go before the first go before the second, and the first does, the second has the higher rank
pub rank_rises : (i : Instance) (c : Choice) (first second : ℕ) → IsChoice i c → IsTrue (is_before c first second) → ((r : ℕ) → r < length i.processes → IsTrue (is_before c r first) → IsTrue (is_before c r second)) → rank i c first < rank i c second
unfolding counted
rank_rises i c first second ok ahead all =
    total_less (counted c first) (counted c second) (length i.processes) first (ok.pairs first second ahead).first (λ r h. counted_le c first second r (all r h)) (rw (ahead, not_itself i c first ok) (omega arith))

pub ring_of_two : (i : Instance) (c : Choice) (p q : ℕ) → GoesAhead i c p q → GoesAhead i c q p → IsWaitingRing i c (p ∷ q ∷ [])
ring_of_two i c p q forth back = record { two = omega arith; each = each; closes = back }
  where
    each : (k : ℕ) → k + 1 < length (p ∷ q ∷ []) → GoesAhead i c (slice_index (p ∷ q ∷ []) k) (slice_index (p ∷ q ∷ []) (k + 1))
    each zero h = forth
    each (suc k) h = absurd (omega arith)

pub ring_of_three : (i : Instance) (c : Choice) (p q r : ℕ) → GoesAhead i c p q → GoesAhead i c q r → GoesAhead i c r p → IsWaitingRing i c (p ∷ q ∷ r ∷ [])
ring_of_three i c p q r one two three = record { two = omega arith; each = each; closes = three }
  where
    each : (k : ℕ) → k + 1 < length (p ∷ q ∷ r ∷ []) → GoesAhead i c (slice_index (p ∷ q ∷ r ∷ []) k) (slice_index (p ∷ q ∷ r ∷ []) (k + 1))
    each zero h = one
    each (suc zero) h = two
    each (suc (suc k)) h = absurd (omega arith)

-- a link that is turned
pub turned_ring : (i : Instance) (c : Choice) (l : ℕ) → l < length i.links → IsTrue (is_before c (link_at i l).after (link_at i l).before) → IsWaitingRing i c ((link_at i l).before ∷ (link_at i l).after ∷ [])
turned_ring i c l inside back =
    ring_of_two i c (link_at i l).before (link_at i l).after (inr (record { link = l; is_there = inside; before = refl; after = refl })) (inl back)

-- the second goes before one that goes before the first alone
pub second_before : (i : Instance) (c : Choice) (first second third : ℕ) → IsChoice i c → IsComplete i c → IsTrue (is_before c first second) → IsTrue (is_before c third first) → IsFalse (is_before c third second) → third ≢ second → IsTrue (is_before c second third)
second_before i c first second third ok done ahead into not differ =
    let low = ok.pairs third first into in
    let high = ok.pairs first second ahead in
    let pair : ArePair i second third = record { first = high.second; second = low.first; two = λ same. differ (sym same); one_node = sym (low.one_node ∙ high.one_node) } in
    elim (one_before i c second third done pair) [ inl forth ↦ forth | inr back ↦ absurd (both_ways _ not back) ]

-- an answer is there where its lack would say what is false
pub some_or : (o : Option ℕ) (P : Type 0) → IfNone o P → ¬ P → IsSome o
some_or None P none not = absurd (not none)
some_or (Some x) P none not = refl
