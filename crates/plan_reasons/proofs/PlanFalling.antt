-- Along a chain ticks fall: what holds a process or a message back begins before it.
use Rattle.std.proofs.Common.{ℕ, ◌+◌, ◌<◌, ◌≤◌, Option, None, Some, length, arith}
use Rattle.ttp_model.specs.declared.error.Place.TheVariants.{AtCluster, AtLink, AtMessage, AtProcess}
use Rattle.ttp_model.specs.declared.plan.Plan.{Plan}
use Rattle.ttp_model.specs.Instance.{Instance, link_at, message_at}
use Rattle.ttp_model.specs.Rules.{IsInstance}
use Rattle.ttp_model.specs.Plans.{IsValid, end_of, sent_from, sent_until, start_of}
use Rattle.plan_reasons.specs.declared.plan_links.ChainLink.{ChainLink}
use Rattle.plan_reasons.specs.declared.plan_links.ChainLink.TheVariants.{Run, Sending}
use Rattle.plan_reasons.specs.declared.plan_links.RoundCause.TheVariants.{CouldGo, First, Full}
use Rattle.plan_reasons.specs.declared.runs.StartCause.TheVariants.{Arrival, Behind, CouldStart, Link, Release}
use Rattle.plan_reasons.specs.declared.plan_links.Subject.{Subject}
use Rattle.plan_reasons.specs.declared.plan_links.Subject.TheVariants.{Message, Process}
use Rattle.plan_reasons.specs.PlanChains.{IsLinkOf, held_by, subject_of}
use Rattle.plan_reasons.specs.PlanThere.{IsLinkThere}

-- how far from tick 0 a process or a message begins, and 0 where there is none
abbrev pub depth : Instance → Plan → Option Subject → ℕ
depth i plan None = 0
depth i plan (Some (Process p)) = start_of plan p + 1
depth i plan (Some (Message m)) = sent_from i plan m + 1

module _ (i : Instance) (plan : Plan) (w : IsInstance i) (v : IsValid i plan) where
  starts_before : (p time : ℕ) → p < length i.processes → end_of i plan p ≤ time → start_of plan p < time
  starts_before p time inside ends = omega (arith, ends, (w.ranges (AtProcess p) inside).wcet_least)

  slot_takes : (m : ℕ) → sent_from i plan m < sent_until i plan m
  slot_takes m = omega (arith, (w.ranges AtCluster).head_least)

  sender_before : (m : ℕ) → m < length i.messages → start_of plan (message_at i m).sender < sent_from i plan m
  sender_before m inside = starts_before (message_at i m).sender (sent_from i plan m) (w.indices (AtMessage m) inside).0 (omega (arith, v.ready m inside))

  pub falls : (link : ChainLink) → IsLinkOf i plan link → depth i plan (held_by i link) < depth i plan (Some (subject_of link))
  falls (Run p from until Release) is = omega arith
  falls (Run p from until (Link l)) is =
      let first = is.for_cause.1 in
      omega (arith, starts_before (link_at i l).before (start_of plan p) (w.indices (AtLink l) first.within).0 (omega (arith, first.holds.1)))
  falls (Run p from until (Behind q)) is =
      let first = is.for_cause.2 in
      omega (arith, starts_before q (start_of plan p) first.within (omega (arith, first.holds.1)))
  falls (Run p from until (Arrival m)) is =
      let first = is.for_cause.2 in
      omega (arith, slot_takes m, first.holds.1)
  falls (Run p from until (CouldStart time)) is = omega arith
  falls (Sending m from until First) is = omega (arith, sender_before m is.is_there)
  falls (Sending m from until (Full first)) is = omega (arith, sender_before m is.is_there)
  falls (Sending m from until (CouldGo r)) is = omega arith

pub link_is_there : (i : Instance) (plan : Plan) (link : ChainLink) → IsLinkOf i plan link → IsLinkThere i link
link_is_there i plan (Run p from until Release) is = (is.is_there, tt)
link_is_there i plan (Run p from until (Link l)) is = (is.is_there, is.for_cause.1.within)
link_is_there i plan (Run p from until (Behind q)) is = (is.is_there, is.for_cause.2.within)
link_is_there i plan (Run p from until (Arrival m)) is = (is.is_there, is.for_cause.2.within)
link_is_there i plan (Run p from until (CouldStart time)) is = (is.is_there, tt)
link_is_there i plan (Sending m from until cause) is = is.is_there
