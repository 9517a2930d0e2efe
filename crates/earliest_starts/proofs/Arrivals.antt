-- The times from which processes may start, as message after message arrives.
use Rattle.std.proofs.Common.{◌≡◌, ℕ, ◌+◌, ◌^◌, ◌<◌, ◌≤◌, ◌⊎◌, List, length, slice_index, Contains, arith, inl, inr, subst, sym, ap, ◌∙◌}
use Rattle.std.proofs.lemmas.Bool.{cases_eq}
use Rattle.ttp_model.specs.declared.error.Place.TheVariants.{AtProcess}
use Rattle.ttp_model.specs.Instance.{Instance, process_at, message_at}
use Rattle.ttp_model.specs.Rules.{IsInstance}
use Rattle.tt_choice.specs.Choice.{Choice}
use Rattle.earliest_starts.specs.Fixed.{sends_until}
use Rattle.earliest_starts.specs.Clashes.{WaitsUntil, released, arrived}
use Rattle.earliest_starts.specs.Starts.{AreFloors}

pub AreFloors-releases : (i : Instance) (c : Choice) (times : List ℕ) → IsInstance i → length times ≡ length i.processes → ((p : ℕ) → p < length i.processes → slice_index times p ≡ (process_at i p).release) → AreFloors i c 0 times
AreFloors-releases i c times w all each = record {
  all = all;
  waits = λ p h. subst (WaitsUntil i c p) (sym (each p h)) (released p h);
  released = λ p h. omega (arith, each p h);
  arrived = λ m p lt is. absurd (omega arith);
  small = λ p h. omega (arith, each p h, (w.ranges (AtProcess p) h).release);
}

pub AreFloors-raised : (i : Instance) (c : Choice) (m time : ℕ) (old new : List ℕ) → m < length i.messages → time ≡ sends_until i c m + i.cluster.copy_in → time < 2 ^ 59 → AreFloors i c m old → length new ≡ length old → ((p : ℕ) → slice_index old p ≤ slice_index new p) → ((p : ℕ) → Contains (message_at i m).receivers p → time ≤ slice_index new p) → ((p : ℕ) → (slice_index new p ≡ slice_index old p) ⊎ (Contains (message_at i m).receivers p × (slice_index new p ≡ time))) → AreFloors i c (m + 1) new
AreFloors-raised i c m time old new inside is few f all kept raised cause = record {
  all = all ∙ f.all;
  waits = λ p h. waits p h (cause p);
  released = λ p h. omega (arith, f.released p h, kept p);
  arrived = λ k p lt has. elim (cases_eq k m) [
    | inl same ↦ omega (arith, raised p (subst (λ n. Contains (message_at i n).receivers p) same has), is, ap (sends_until i c) same)
    | inr differ ↦ omega (arith, f.arrived k p (omega (arith, lt, differ)) has, kept p)
  ];
  small = λ p h. elim (cause p) [ inl same ↦ omega (arith, same, f.small p h) | inr late ↦ omega (arith, late.1, few) ];
}
  where
    waits : (p : ℕ) → p < length i.processes → (slice_index new p ≡ slice_index old p) ⊎ (Contains (message_at i m).receivers p × (slice_index new p ≡ time)) → WaitsUntil i c p (slice_index new p)
    waits p h (inl same) = subst (WaitsUntil i c p) (sym same) (f.waits p h)
    waits p h (inr late) = subst (WaitsUntil i c p) (sym (late.1 ∙ is)) (arrived m p inside late.0)
