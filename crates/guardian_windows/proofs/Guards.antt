-- A frame passes its window, and between any two windows lies the precision.
use Rattle.std.proofs.Common.{◌≡◌, ℕ, zero, suc, ◌+◌, ◌*◌, ◌<◌, ◌≤◌, ◌⊎◌, List, ◌++◌, length, slice_index, get_or, All, AllPairs, arith, inr, refl, add-one, subst}
use Rattle.std.specs.List.{flat_map, range_with_len}
use Rattle.std.proofs.lemmas.List.{get_or-map, length-map}
use Rattle.std.proofs.lemmas.Grind.{common_steps}
use Rattle.std.proofs.lemmas.List.Elements.{All-append, All-map}
use Rattle.ttp_model.specs.declared.plan.Plan.{Plan}
use Rattle.ttp_model.specs.Instance.{Instance}
use Rattle.ttp_model.specs.Rules.{IsInstance}
use Rattle.ttp_model.specs.Plans.{IsNodeOrder}
use Rattle.ttp_model.specs.Slots.{round_length}
use Rattle.tt_layout.specs.Cycle.{cycle_rounds}
use Rattle.tt_layout.proofs.Ranges.{All-flat_map, flat_map-range_with_len_more}
use Rattle.tt_layout.proofs.SlotTimes.{slot_end-le, slot_end-le-slot_start}
use Rattle.guardian_windows.specs.declared.window.Window.{Window}
use Rattle.guardian_windows.specs.Windows.{cycle_windows, round_windows, window_of}
use Rattle.guardian_windows.specs.Clocks.{AdmitFrames, AreNeverOpenTogether, AreSynchronized, GuardianClock, IsGuardianOpen, IsSending, NodeClock, Readings}
use Rattle.guardian_windows.proofs.Lists.{AllPairs-append}

-- the frame's ticks, and the precision more on both sides
admits : (i : Instance) (plan : Plan) (r n : ℕ) (reading : Readings) → AreSynchronized i.cluster.precision reading → IsSending i plan reading (window_of i plan r n) → IsGuardianOpen reading (window_of i plan r n)
admits i plan r n reading close sending =
    let ahead = close (NodeClock n) (GuardianClock n) in
    let behind = close (GuardianClock n) (NodeClock n) in
    (omega (arith, sending.0, ahead), omega (arith, sending.1, behind))

pub frames_pass : (i : Instance) (plan : Plan) → AdmitFrames i plan (cycle_windows i plan)
frames_pass i plan = λ reading close.
    let passes = λ (w : Window). IsSending i plan reading w → IsGuardianOpen reading w in
    All-flat_map passes (round_windows i plan) _ (λ r. All-map passes (window_of i plan r) plan.order (λ k d inside. admits i plan r _ reading close))

-- w is no less than the precision after v
abbrev Precedes : ℕ → Window → Window → Type 0
Precedes precision v w = v.until + precision ≤ w.from

module _ (i : Instance) (plan : Plan) (w : IsInstance i) (o : IsNodeOrder (length plan.caps) plan.order) where
  abbrev at_place : ℕ → ℕ → Window
  at_place r k = window_of i plan r (slice_index plan.order k)

  precedes : (j k r s : ℕ) → j < length plan.order → k < length plan.order → (r < s) ⊎ ((r ≡ s) × (j < k)) → Precedes i.cluster.precision (at_place r j) (at_place s k)
  precedes j k r s first second before =
      omega (arith, slot_end-le-slot_start i.cluster plan.order plan.caps o j k r s first second before, w.lead, w.trail)

  ends_in_round : (k r : ℕ) → k < length plan.order → (at_place r k).until ≤ r * round_length i.cluster plan.caps + round_length i.cluster plan.caps
  ends_in_round k r inside = omega (arith, slot_end-le i.cluster plan.order plan.caps o k r inside, w.trail)

  begins_in_round : (n r : ℕ) → r * round_length i.cluster plan.caps + i.cluster.precision ≤ (window_of i plan r n).from
  begins_in_round n r = omega (arith, w.lead)

  round_apart : (r : ℕ) → AllPairs (Precedes i.cluster.precision) (round_windows i plan r)
  round_apart r = λ j k d lt inside.
      let f = window_of i plan r in
      let second : k < length plan.order = omega (arith, inside, length-map plan.order f) in
      let first : j < length plan.order = omega (arith, second, lt) in
      rw (get_or-map f plan.order j 0 d first, get_or-map f plan.order k 0 d second) (precedes j k r r first second (inr (refl, lt)))

  round_begins : (r : ℕ) → All (λ v. r * round_length i.cluster plan.caps + i.cluster.precision ≤ v.from) (round_windows i plan r)
  round_begins r = All-map (λ v. r * round_length i.cluster plan.caps + i.cluster.precision ≤ v.from) (window_of i plan r) plan.order (λ k d inside. begins_in_round (get_or plan.order k d) r)

  round_ends : (r : ℕ) → All (λ v. v.until ≤ r * round_length i.cluster plan.caps + round_length i.cluster plan.caps) (round_windows i plan r)
  round_ends r = λ k d inside.
      let f = window_of i plan r in
      let place : k < length plan.order = omega (arith, inside, length-map plan.order f) in
      rw (get_or-map f plan.order k 0 d place) (ends_in_round k r place)

  -- the windows of the first rounds
  abbrev windows_before : ℕ → List Window
  windows_before r = flat_map (round_windows i plan) (range_with_len 0 r)

  windows_before-suc : (r : ℕ) → windows_before r ++ round_windows i plan r ≡ windows_before (suc r)
  windows_before-suc r = rw add-one at (flat_map-range_with_len_more (round_windows i plan) r)

  rounds_end : (r : ℕ) → All (λ v. v.until ≤ r * round_length i.cluster plan.caps) (windows_before r)
  rounds_end zero = λ k d inside. absurd (omega arith)
  rounds_end (suc r) =
      let ends = λ (v : Window). v.until ≤ suc r * round_length i.cluster plan.caps in
      let before : All ends (windows_before r) = λ k d inside. omega (arith, rounds_end r k d inside) in
      let last : All ends (round_windows i plan r) = λ k d inside. omega (arith, round_ends r k d inside) in
      subst (All ends) (windows_before-suc r) (All-append ends (windows_before r) (round_windows i plan r) before last)

  rounds_apart : (r : ℕ) → AllPairs (Precedes i.cluster.precision) (windows_before r)
  rounds_apart zero = λ j k d lt inside. absurd (omega arith)
  rounds_apart (suc r) =
      let after = Precedes i.cluster.precision in
      let between : All (λ v. All (after v) (round_windows i plan r)) (windows_before r) = λ k d h. λ m e g. omega (arith, rounds_end r k d h, round_begins r m e g) in
      subst (AllPairs after) (windows_before-suc r) (AllPairs-append after (windows_before r) (round_windows i plan r) (rounds_apart r) (round_apart r) between)

-- two guardians inside two windows would be further apart than the precision
never_together : (precision : ℕ) (windows : List Window) → AllPairs (Precedes precision) windows → AreNeverOpenTogether precision windows
never_together precision windows apart = λ reading close j k d lt inside both.
    let v = get_or windows j d in
    let w = get_or windows k d in
    omega (arith, apart j k d lt inside, both.0, both.1, close (GuardianClock w.node) (GuardianClock v.node))

pub windows_apart : (i : Instance) (plan : Plan) → IsInstance i → IsNodeOrder (length plan.caps) plan.order → AreNeverOpenTogether i.cluster.precision (cycle_windows i plan)
windows_apart i plan w o = never_together i.cluster.precision (cycle_windows i plan) (rounds_apart i plan w o (cycle_rounds i plan))

pub nodes_are_there : (i : Instance) (plan : Plan) → IsNodeOrder (length i.nodes) plan.order → All (λ w. w.node < length i.nodes) (cycle_windows i plan)
nodes_are_there i plan o =
    let there = λ (w : Window). w.node < length i.nodes in
    let each : All (λ n. n < length i.nodes) plan.order = λ k d inside. grind (arith, common_steps, o.each k (omega (arith, inside, o.all))) in
    All-flat_map there (round_windows i plan) _ (λ r. All-map there (window_of i plan r) plan.order each)
