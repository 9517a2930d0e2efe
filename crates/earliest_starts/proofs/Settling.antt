-- One more start, after those of all processes that go before it.
use Rattle.std.proofs.Common.{◌≡◌, ◌≢◌, ℕ, ◌+◌, ◌<◌, ◌≤◌, ◌⊎◌, List, length, slice_index, slice_set, IsTrue, arith, inl, inr, subst, sym, ap, ◌∙◌, get_or-set_other, get_or-set_same}
use Rattle.std.proofs.lemmas.Bool.{cases_eq, cases_lt}
use Rattle.ttp_model.specs.Instance.{Instance, process_at}
use Rattle.ttp_model.specs.Raising.{IsRaised}
use Rattle.ttp_model.proofs.Totals.{total_less, total_bound}
use Rattle.tt_choice.specs.Choice.{Choice, is_before, IsChoice}
use Rattle.earliest_starts.specs.Clashes.{WaitsUntil, after, MissesWindow}
use Rattle.earliest_starts.specs.Ranks.{rank, Rise}
use Rattle.earliest_starts.specs.Starts.{AreFloors, GoesBefore, StartsInTime, end_in}
use Rattle.earliest_starts.proofs.Rings.{counted, not_itself, counted_one}

-- a rank is below the number of processes
pub rank_below : (i : Instance) (c : Choice) (p : ℕ) → IsChoice i c → p < length i.processes → rank i c p < length i.processes
unfolding counted
rank_below i c p ok inside =
    let less = total_less (counted c p) (λ _. 1) (length i.processes) p inside (λ q h. counted_one c p q) (rw (not_itself i c p ok) (omega arith)) in
    let all = total_bound (λ _. 1) 1 (length i.processes) (λ q h. omega arith) in
    omega (arith, less, all)

module _ (i : Instance) (c : Choice) (ranks floors starts : List ℕ) (rank p time : ℕ) (ok : IsChoice i c) (rise : Rise i c ranks) (here : slice_index ranks p ≡ rank) (inside : p < length i.processes) (long : length starts ≡ length i.processes) where
  -- what p waits for
  pub WaitsUntil-raised : AreFloors i c (length i.messages) floors → ((q : ℕ) → q < length i.processes → slice_index ranks q < rank → StartsInTime i c floors starts q) → IsRaised (length i.processes) (GoesBefore c p) (end_in i starts) (slice_index floors p) time → WaitsUntil i c p time
  WaitsUntil-raised f lower r = elim r.met [
    | inl is ↦ subst (WaitsUntil i c p) (sym is) (f.waits p inside)
    | inr is ↦
        let q = is.0 in
        let before = lower q is.1 (omega (arith, rise q p is.2.0, here)) in
        subst (WaitsUntil i c p) is.2.1 (after q p (slice_index starts q) before.waits (inl is.2.0))
  ]

  set_here : slice_index (slice_set starts p time) p ≡ time
  set_here = get_or-set_same starts p time 0 (omega (arith, inside, long))

  set_other : (k : ℕ) → k ≢ p → slice_index (slice_set starts p time) k ≡ slice_index starts k
  set_other k differ = get_or-set_other starts p k time 0 differ

  -- those that go before p are others
  before_differs : (k q : ℕ) → slice_index ranks k < rank + 1 → IsTrue (is_before c q k) → q ≢ p
  before_differs k q low holds same = let equal = ap (slice_index ranks) same in omega (arith, rise q k holds, low, here, equal)

  IsSettled-new : WaitsUntil i c p time → slice_index floors p ≤ time → ((q : ℕ) → IsTrue (is_before c q p) → slice_index starts q + (process_at i q).wcet ≤ time) → time + (process_at i p).wcet ≤ (process_at i p).deadline → time + (process_at i p).wcet ≤ i.cluster.horizon → StartsInTime i c floors (slice_set starts p time) p
  IsSettled-new waits floor ends deadline horizon = record {
    waits = rw set_here waits;
    floor = rw set_here floor;
    after = λ q holds. rw (set_here, set_other q (before_differs p q (omega (arith, here)) holds)) (ends q holds);
    deadline = rw set_here deadline;
    horizon = rw set_here horizon;
  }

  IsSettled-kept : (k : ℕ) → k ≢ p → slice_index ranks k < rank + 1 → StartsInTime i c floors starts k → StartsInTime i c floors (slice_set starts p time) k
  IsSettled-kept k differ low s = record {
    waits = rw (set_other k differ) s.waits;
    floor = rw (set_other k differ) s.floor;
    after = λ q holds. rw (set_other k differ, set_other q (before_differs k q low holds)) (s.after q holds);
    deadline = rw (set_other k differ) s.deadline;
    horizon = rw (set_other k differ) s.horizon;
  }

  -- one more process of the rank is settled
  settled_more : ((k : ℕ) → k < length i.processes → (slice_index ranks k < rank) ⊎ ((slice_index ranks k ≡ rank) × (k < p)) → StartsInTime i c floors starts k) → StartsInTime i c floors (slice_set starts p time) p → (k : ℕ) → k < length i.processes → (slice_index ranks k < rank) ⊎ ((slice_index ranks k ≡ rank) × (k < p + 1)) → StartsInTime i c floors (slice_set starts p time) k
  settled_more old new k h (inl lower) = elim (cases_eq k p) [
    | inl same ↦ rw same new
    | inr differ ↦ IsSettled-kept k differ (omega (arith, lower)) (old k h (inl lower))
  ]
  settled_more old new k h (inr same) = elim (cases_eq k p) [
    | inl equal ↦ rw equal new
    | inr differ ↦ IsSettled-kept k differ (omega (arith, same.0)) (old k h (inr (same.0, omega (arith, same.1, differ))))
  ]

  -- so it is with the start that was found
  pub settled_next : AreFloors i c (length i.messages) floors → ((k : ℕ) → k < length i.processes → (slice_index ranks k < rank) ⊎ ((slice_index ranks k ≡ rank) × (k < p)) → StartsInTime i c floors starts k) → IsRaised (length i.processes) (GoesBefore c p) (end_in i starts) (slice_index floors p) time → (time + (process_at i p).wcet ≤ (process_at i p).deadline) × (time + (process_at i p).wcet ≤ i.cluster.horizon) → (k : ℕ) → k < length i.processes → (slice_index ranks k < rank) ⊎ ((slice_index ranks k ≡ rank) × (k < p + 1)) → StartsInTime i c floors (slice_set starts p time) k
  settled_next f old r in_time =
      let waits = WaitsUntil-raised f (λ q h lower. old q h (inl lower)) r in
      settled_more old (IsSettled-new waits r.least (λ q holds. r.each q (ok.pairs q p holds).first holds) in_time.0 in_time.1)

-- a process of another rank changes nothing
pub settled_same : (i : Instance) (c : Choice) (ranks floors starts : List ℕ) (rank p : ℕ) → slice_index ranks p ≢ rank → ((k : ℕ) → k < length i.processes → (slice_index ranks k < rank) ⊎ ((slice_index ranks k ≡ rank) × (k < p)) → StartsInTime i c floors starts k) → (k : ℕ) → k < length i.processes → (slice_index ranks k < rank) ⊎ ((slice_index ranks k ≡ rank) × (k < p + 1)) → StartsInTime i c floors starts k
settled_same i c ranks floors starts rank p other old k h (inl lower) = old k h (inl lower)
settled_same i c ranks floors starts rank p other old k h (inr same) = elim (cases_eq k p) [
  | inl here ↦ absurd (other (sym (ap (slice_index ranks) here) ∙ same.0))
  | inr differ ↦ old k h (inr (same.0, omega (arith, same.1, differ)))
]

-- a process that can't end in time
pub MissesWindow-late : (i : Instance) (c : Choice) (p time : ℕ) → p < length i.processes → WaitsUntil i c p time → ¬ ((time + (process_at i p).wcet ≤ (process_at i p).deadline) × (time + (process_at i p).wcet ≤ i.cluster.horizon)) → MissesWindow i c p
MissesWindow-late i c p time inside waits late = record { process = inside; time = time; waits = waits; late = which }
  where
    which : ((process_at i p).deadline < time + (process_at i p).wcet) ⊎ (i.cluster.horizon < time + (process_at i p).wcet)
    which = elim (cases_lt (process_at i p).deadline (time + (process_at i p).wcet)) [
      | inl over ↦ inl over
      | inr deadline ↦ elim (cases_lt i.cluster.horizon (time + (process_at i p).wcet)) [
        | inl over ↦ inr over
        | inr horizon ↦ absurd (late (deadline, horizon))
      ]
    ]
