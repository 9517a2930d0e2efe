-- The steps that leave no plan outside leave none inside.
use Rattle.std.proofs.Common.{ℕ, ◌+◌, ◌-◌, List, length, slice_index, arith, inl, inr, refl}
use Rattle.ttp_model.specs.declared.step.Step.TheVariants.{XWindow, XRound, XCycle, XFrame}
use Rattle.sought_plans.specs.Known.{Known}
use Rattle.sought_plans.specs.Conclusions.{NothingLeft}
use Rattle.sought_plans.specs.Premises.{IsAhead, IsRing}
use Rattle.tt_infer.proofs.monotone.Nested.{Nested, AreKnown, IsKept}
use Rattle.tt_infer.proofs.monotone.Slots.{cap_most_down}

pub x_window_kept : (s : Nested) (f h : Known) (p : ℕ) → AreKnown s f h → IsKept s f h (XWindow p)
x_window_kept s f h p t k there premise is = record {
  there = there;
  premise = omega (arith, premise, t.sharper.le p, t.sharper.es p);
  conclusion = NothingLeft;
  concludes = refl;
  stronger = is;
}

pub x_round_kept : (s : Nested) (f h : Known) (m : ℕ) → AreKnown s f h → IsKept s f h (XRound m)
x_round_kept s f h m t k there premise is = record {
  there = there;
  premise = omega (arith, premise, t.sharper.top m, t.sharper.lo m);
  conclusion = NothingLeft;
  concludes = refl;
  stronger = is;
}

ahead_inside : (s : Nested) (f h : Known) (p q : ℕ) → AreKnown s f h → IsAhead s.instance f p q → IsAhead s.instance h p q
ahead_inside s f h p q t is = elim is [ inl known ↦ inl (t.sharper.bef p q known) | inr leads ↦ inr leads ]

ring_inside : (s : Nested) (f h : Known) (ps : List ℕ) → AreKnown s f h → IsRing s.instance f ps → IsRing s.instance h ps
ring_inside s f h ps t ring = record {
  each = λ k there. ahead_inside s f h (slice_index ps k) (slice_index ps (k + 1)) t (ring.each k there);
  closes = ahead_inside s f h (slice_index ps (length ps - 1)) (slice_index ps 0) t ring.closes;
}

pub x_cycle_kept : (s : Nested) (f h : Known) (ps : List ℕ) → AreKnown s f h → IsKept s f h (XCycle ps)
x_cycle_kept s f h ps t k there premise is = record { there = there; premise = ring_inside s f h ps t premise; conclusion = NothingLeft; concludes = refl; stronger = is }

pub x_frame_kept : (s : Nested) (f h : Known) (m : ℕ) → IsKept s f h (XFrame m)
x_frame_kept s f h m k there premise is =
    let down = cap_most_down s m there in
    record { there = there; premise = omega (arith, premise, down); conclusion = NothingLeft; concludes = refl; stronger = is }
