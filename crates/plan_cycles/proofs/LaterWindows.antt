-- The windows of a later round are those of round 0, so many ticks later.
use Rattle.std.proofs.Common.{◌≡◌, ◌∙◌, ℕ, zero, suc, ◌+◌, ◌-◌, ◌*◌, ◌<◌, ◌≤◌, List, [], ◌∷◌, ◌++◌, All, length, map, take, get_or, slice_index_or, append_assoc, arith, refl, sym, subst, ap, ap₂}
use Rattle.std.specs.List.{flat_map, range_with_len}
use Rattle.std.proofs.lemmas.Grind.{common_steps}
use Rattle.std.proofs.lemmas.List.{get_or_append_left, get_or-take, get_or_default, length-append, length-map, length-take-le, map_more, take_at}
use Rattle.std.proofs.lemmas.List.Elements.{All-map}
use Rattle.ttp_model.specs.declared.plan.Plan.{Plan}
use Rattle.ttp_model.specs.Instance.{Instance}
use Rattle.ttp_model.specs.Rules.{IsInstance}
use Rattle.ttp_model.specs.Plans.{IsNodeOrder, IsValid}
use Rattle.ttp_model.specs.Slots.{round_length}
use Rattle.tt_layout.specs.Cycle.{cycle_rounds}
use Rattle.tt_layout.proofs.Ranges.{All-flat_map, flat_map-range_with_len_more}
use Rattle.tt_layout.proofs.SlotTimes.{slot_end-le}
use Rattle.guardian_windows.specs.declared.window.Window.{Window}
use Rattle.guardian_windows.specs.Windows.{frame_end, frame_start, round_windows, window_of}
use Rattle.plan_cycles.proofs.Periods.{cycle_some}
use Rattle.plan_cycles.specs.Rounds.{IsOverBy, later_window, windows_in}

-- one map after another
map-through : {X Y Z : Type 0} (f : X → Y) (g : Y → Z) (h : X → Z) (xs : List X) → ((x : X) → g (f x) ≡ h x) → map g (map f xs) ≡ map h xs
map-through f g h [] same = refl
map-through f g h (x ∷ xs) same = ap₂ (λ z zs. z ∷ zs) (same x) (map-through f g h xs same)

-- a window by its ticks
abbrev window_from : ℕ → ℕ → ℕ → ℕ → Window
window_from r n from until = record { round = r; node = n; from = from; until = until }

module _ (i : Instance) (plan : Plan) (w : IsInstance i) where
  one_later : (r n : ℕ) → later_window r (r * round_length i.cluster plan.caps) (window_of i plan 0 n) ≡ window_of i plan r n
  one_later r n =
      let ticks = r * round_length i.cluster plan.caps in
      let from : (frame_start i plan n 0 - i.cluster.precision) + ticks ≡ frame_start i plan n r - i.cluster.precision = omega (arith, w.lead) in
      let until : (frame_end i plan n 0 + i.cluster.precision) + ticks ≡ frame_end i plan n r + i.cluster.precision = omega arith in
      ap₂ (window_from r n) from until

  round_later : (r : ℕ) → map (later_window r (r * round_length i.cluster plan.caps)) (round_windows i plan 0) ≡ round_windows i plan r
  round_later r = map-through (window_of i plan 0) (later_window r (r * round_length i.cluster plan.caps)) (window_of i plan r) plan.order (one_later r)

  module _ (v : IsValid i plan) where
    -- behind the cycle there are windows of round 0, and they come first
    first_round : (r : ℕ) → cycle_rounds i plan ≤ r → take (length i.nodes) (windows_in r i plan) ≡ round_windows i plan 0
    first_round zero behind = absurd (omega (arith, behind, cycle_some i plan w v))
    first_round (suc r) behind =
        take_at (round_windows i plan 0) (flat_map (round_windows i plan) (range_with_len (0 + 1) r)) (length i.nodes) (length-map plan.order (window_of i plan 0) ∙ v.lengths.order)

    -- as many of them as nodes
    pub enough_windows : (r : ℕ) → cycle_rounds i plan ≤ r → length i.nodes ≤ length (windows_in r i plan)
    enough_windows zero behind = absurd (omega (arith, behind, cycle_some i plan w v))
    enough_windows (suc r) behind =
        let later = flat_map (round_windows i plan) (range_with_len (0 + 1) r) in
        omega (arith, length-append (round_windows i plan 0) later, length-map plan.order (window_of i plan 0), v.lengths.order)

    -- those of one round more
    pub windows_more : (r : ℕ) → cycle_rounds i plan ≤ r
        → windows_in r i plan ++ map (later_window r (r * round_length i.cluster plan.caps)) (take (length i.nodes) (windows_in r i plan)) ≡ windows_in (r + 1) i plan
    windows_more r behind = rw (first_round r behind, round_later r) (flat_map-range_with_len_more (round_windows i plan) r)

    -- those of round 0 are over by its end
    pub first_early : (r bound : ℕ) → cycle_rounds i plan ≤ r → round_length i.cluster plan.caps ≤ bound → All (IsOverBy bound) (take (length i.nodes) (windows_in r i plan))
    first_early r bound behind long = rw (first_round r behind) (All-map (IsOverBy bound) (window_of i plan 0) plan.order early)
      where
        order : IsNodeOrder (length plan.caps) plan.order
        order = rw (← v.lengths.capacities) at v.order

        early : (k d : ℕ) → k < length plan.order → IsOverBy bound (window_of i plan 0 (slice_index_or plan.order k d))
        early k d inside =
            let ends = slot_end-le i.cluster plan.order plan.caps order k 0 inside in
            rw (get_or_default plan.order k d 0 inside) (omega (arith, ends, w.trail, long), omega (arith, ends, w.trail, long))

    pub nodes_there : (r : ℕ) → All (λ w. w.node < length i.nodes) (windows_in r i plan)
    nodes_there r =
        let there = λ (w : Window). w.node < length i.nodes in
        let each : All (λ n. n < length i.nodes) plan.order = λ k d inside. grind (arith, common_steps, v.order.each k (omega (arith, inside, v.order.all))) in
        All-flat_map there (round_windows i plan) (range_with_len 0 r) (λ round. All-map there (window_of i plan round) plan.order each)

-- The window that comes next is still where it was
pub next_window : (later : Window → Window) (before now : List Window) (k : ℕ) (d : Window) → k < length before → now ≡ before ++ map later (take k before) → get_or now k d ≡ get_or before k d
next_window later before now k d inside is = rw is (get_or_append_left before (map later (take k before)) d k inside)

-- so one window more is one of those that were there, later
pub window_copied : (later : Window → Window) (before now next : List Window) (k : ℕ) (w : Window) → k < length before → now ≡ before ++ map later (take k before)
    → w ≡ get_or now k w → next ≡ now ++ later w ∷ [] → next ≡ before ++ map later (take (k + 1) before)
window_copied later before now next k w inside is at more =
    let first : w ≡ get_or before k w = at ∙ next_window later before now k w inside is in
    let copied : map later (take (k + 1) before) ≡ map later (take k before) ++ later w ∷ [] =
    map_more later before k w inside ∙ ap (λ x. map later (take k before) ++ later x ∷ []) (sym first) in
    rw (more, is, copied) (append_assoc before (map later (take k before)) (later w ∷ []))

-- and it's over as early
pub window_early : (bound slots k : ℕ) (before : List Window) (w : Window) → k < slots → slots ≤ length before → All (IsOverBy bound) (take slots before) → w ≡ get_or before k w → IsOverBy bound w
window_early bound slots k before w inside there early is =
    let place : k < length (take slots before) = omega (arith, length-take-le slots before there, inside) in
    let over : IsOverBy bound (get_or before k w) = rw (get_or-take slots before k w inside) at (early k w place) in
    subst (IsOverBy bound) (sym is) over
