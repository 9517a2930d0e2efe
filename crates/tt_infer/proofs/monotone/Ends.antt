-- The steps that tell when a process ends at most tell no later time inside.
use Rattle.std.proofs.Common.{ℕ, ◌-◌, ◌≤◌, min, arith, refl}
use Rattle.ttp_model.specs.declared.step.Step.TheVariants.{LeOwn, LeLink, LeBefore, LeMessage, LeSend}
use Rattle.ttp_model.specs.Instance.{process_at, link_at, source_of}
use Rattle.tt_choice.specs.Extremes.{start_most, dur_least}
use Rattle.sought_plans.specs.Known.{Known, top_of}
use Rattle.sought_plans.specs.Conclusions.{EndsUntil}
use Rattle.sought_plans.specs.Premises.{sender_of, most_start}
use Rattle.tt_infer.proofs.monotone.Nested.{Nested, AreKnown, IsKept}
use Rattle.tt_infer.proofs.monotone.Slots.{start_most_down, dur_least_up}

pub le_own_kept : (s : Nested) (f h : Known) (p : ℕ) → IsKept s f h (LeOwn p)
le_own_kept s f h p k there premise is =
    let no_larger = s.no_larger in
    record {
      there = there;
      premise = tt;
      conclusion = EndsUntil p (min (min (process_at s.instance p).deadline s.instance.cluster.horizon) (s.aim - 1));
      concludes = refl;
      stronger = (min (min (process_at s.instance p).deadline s.instance.cluster.horizon) (s.goal - 1), is, omega (arith, no_larger));
    }

pub le_link_kept : (s : Nested) (f h : Known) (l : ℕ) → AreKnown s f h → IsKept s f h (LeLink l)
le_link_kept s f h l t k there premise is = record {
  there = there;
  premise = tt;
  conclusion = EndsUntil (link_at s.instance l).before (most_start s.instance h (link_at s.instance l).after);
  concludes = refl;
  stronger = (most_start s.instance f (link_at s.instance l).after, is, omega (arith, t.sharper.le (link_at s.instance l).after));
}

pub le_before_kept : (s : Nested) (f h : Known) (p q : ℕ) → AreKnown s f h → IsKept s f h (LeBefore p q)
le_before_kept s f h p q t k there premise is = record {
  there = there;
  premise = t.sharper.bef p q premise;
  conclusion = EndsUntil p (most_start s.instance h q);
  concludes = refl;
  stronger = (most_start s.instance f q, is, omega (arith, t.sharper.le q));
}

pub le_message_kept : (s : Nested) (f h : Known) (m q : ℕ) → AreKnown s f h → IsKept s f h (LeMessage m q)
le_message_kept s f h m q t k there premise is =
    let last = t.sharper.le q in
    let long = dur_least_up s m there.0 in
    record {
      there = there;
      premise = tt;
      conclusion = EndsUntil (sender_of s.instance m) (most_start s.instance h q - s.instance.cluster.copy_in - dur_least s.instance s.inner (source_of s.instance m) - s.instance.cluster.copy_out);
      concludes = refl;
      stronger = (most_start s.instance f q - s.instance.cluster.copy_in - dur_least s.instance s.outer (source_of s.instance m) - s.instance.cluster.copy_out, is, omega (arith, last, long));
    }

-- where a round is left inside
pub le_send_kept : (s : Nested) (f h : Known) (m : ℕ) → AreKnown s f h → 1 ≤ top_of h m → IsKept s f h (LeSend m)
le_send_kept s f h m t some k there premise is =
    let down = start_most_down s m there (top_of f m - 1) (top_of h m - 1) (omega (arith, t.sharper.top m)) in
    record {
      there = there;
      premise = some;
      conclusion = EndsUntil (sender_of s.instance m) (start_most s.instance s.inner (source_of s.instance m) (top_of h m - 1) - s.instance.cluster.copy_out);
      concludes = refl;
      stronger = (start_most s.instance s.outer (source_of s.instance m) (top_of f m - 1) - s.instance.cluster.copy_out, is, omega (arith, down));
    }
