-- One window more, in a round.
use Rattle.std.proofs.Common.{◌≡◌, ℕ, ◌+◌, ◌-◌, ◌<◌, List, [], ◌∷◌, ◌++◌, take, length, slice_index, map, arith, refl, append_assoc}
use Rattle.std.proofs.lemmas.List.{map_more}
use Rattle.ttp_model.specs.declared.plan.Plan.{Plan}
use Rattle.ttp_model.specs.Instance.{Instance}
use Rattle.ttp_model.specs.Slots.{duration, slot_start}
use Rattle.guardian_windows.specs.declared.window.Window.{Window}
use Rattle.guardian_windows.specs.Windows.{window_of}

-- the window from its slot's start: the slot without the trail ends with the frame
pub window_of-start : (i : Instance) (plan : Plan) (r n start : ℕ) (w : Window) → start ≡ slot_start i.cluster plan.order plan.caps n r → w ≡ record { round = r; node = n; from = start + i.cluster.lead - i.cluster.precision; until = start + duration i.cluster plan.caps n - i.cluster.trail + i.cluster.precision } → w ≡ window_of i plan r n
window_of-start i plan r n start w begins is =
    let from : start + i.cluster.lead - i.cluster.precision ≡ (window_of i plan r n).from = omega (arith, begins) in
    let until : start + duration i.cluster plan.caps n - i.cluster.trail + i.cluster.precision ≡ (window_of i plan r n).until = omega (arith, begins) in
    rw (is, from, until) refl

pub round_windows-more : (f : ℕ → Window) (before now : List Window) (order : List ℕ) (k : ℕ) → k < length order → now ≡ before ++ map f (take k order) → now ++ f (slice_index order k) ∷ [] ≡ before ++ map f (take (k + 1) order)
round_windows-more f before now order k inside is = rw (map_more f order k 0 inside, is) (append_assoc before (map f (take k order)) (f (slice_index order k) ∷ []))
