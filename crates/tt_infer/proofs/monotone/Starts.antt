-- The steps that tell when a process starts at least tell no earlier time inside.
use Rattle.std.proofs.Common.{ℕ, ◌+◌, arith, refl}
use Rattle.ttp_model.specs.declared.step.Step.TheVariants.{EsRelease, EsLink, EsBefore, EsArrive, EsMessage}
use Rattle.ttp_model.specs.Instance.{process_at, link_at, source_of}
use Rattle.sought_plans.specs.Known.{Known, lo_of}
use Rattle.sought_plans.specs.Conclusions.{StartsFrom}
use Rattle.sought_plans.specs.Premises.{sender_of, least_end, least_ready}
use Rattle.tt_choice.specs.Extremes.{end_least, dur_least}
use Rattle.tt_infer.proofs.monotone.Nested.{Nested, AreKnown, IsKept}
use Rattle.tt_infer.proofs.monotone.Slots.{end_least_up, dur_least_up}

pub es_release_kept : (s : Nested) (f h : Known) (p : ℕ) → IsKept s f h (EsRelease p)
es_release_kept s f h p k there premise is = record {
  there = there;
  premise = tt;
  conclusion = StartsFrom p (process_at s.instance p).release;
  concludes = refl;
  stronger = ((process_at s.instance p).release, is, omega arith);
}

pub es_link_kept : (s : Nested) (f h : Known) (l : ℕ) → AreKnown s f h → IsKept s f h (EsLink l)
es_link_kept s f h l t k there premise is = record {
  there = there;
  premise = tt;
  conclusion = StartsFrom (link_at s.instance l).after (least_end s.instance h (link_at s.instance l).before);
  concludes = refl;
  stronger = (least_end s.instance f (link_at s.instance l).before, is, omega (arith, t.sharper.es (link_at s.instance l).before));
}

pub es_before_kept : (s : Nested) (f h : Known) (p q : ℕ) → AreKnown s f h → IsKept s f h (EsBefore p q)
es_before_kept s f h p q t k there premise is = record {
  there = there;
  premise = t.sharper.bef p q premise;
  conclusion = StartsFrom q (least_end s.instance h p);
  concludes = refl;
  stronger = (least_end s.instance f p, is, omega (arith, t.sharper.es p));
}

pub es_arrive_kept : (s : Nested) (f h : Known) (m q : ℕ) → AreKnown s f h → IsKept s f h (EsArrive m q)
es_arrive_kept s f h m q t k there premise is =
    let later = end_least_up s m there.0 (lo_of f m) (lo_of h m) (t.sharper.lo m) in
    record {
      there = there;
      premise = tt;
      conclusion = StartsFrom q (end_least s.instance s.inner (source_of s.instance m) (lo_of h m) + s.instance.cluster.copy_in);
      concludes = refl;
      stronger = (end_least s.instance s.outer (source_of s.instance m) (lo_of f m) + s.instance.cluster.copy_in, is, omega (arith, later));
    }

pub es_message_kept : (s : Nested) (f h : Known) (m q : ℕ) → AreKnown s f h → IsKept s f h (EsMessage m q)
es_message_kept s f h m q t k there premise is =
    let first = t.sharper.es (sender_of s.instance m) in
    let long = dur_least_up s m there.0 in
    record {
      there = there;
      premise = tt;
      conclusion = StartsFrom q (least_ready s.instance h m + dur_least s.instance s.inner (source_of s.instance m) + s.instance.cluster.copy_in);
      concludes = refl;
      stronger = (least_ready s.instance f m + dur_least s.instance s.outer (source_of s.instance m) + s.instance.cluster.copy_in, is, omega (arith, first, long));
    }
