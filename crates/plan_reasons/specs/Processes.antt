-- Why processes don't keep their times or their order: by how much each fails its rule, in ticks. Own profile.
use Rattle.std.specs.Prelude.{◌≡◌, ℕ, ◌+◌, ◌<◌, max, min}
use Rattle.ttp_model.specs.declared.plan.Plan.{Plan}
use Rattle.ttp_model.specs.Instance.{Instance, link_at, process_at}
use Rattle.ttp_model.specs.Names.{place_name, process_name}
use Rattle.ttp_model.specs.Plans.{end_of, start_of}
use Rattle.plan_facts.specs.Ends.{must_end_by}
use Rattle.plan_reasons.specs.declared.processes.BrokenLink.{BrokenLink}
use Rattle.plan_reasons.specs.declared.processes.Overlap.{Overlap}
use Rattle.plan_reasons.specs.declared.processes.TooEarly.{TooEarly}
use Rattle.plan_reasons.specs.declared.processes.TooLate.{TooLate}
use Rattle.plan_reasons.specs.Limits.{IsLimit}

-- process p starts before its release
pub record IsTooEarly (i : Instance) (plan : Plan) (p : ℕ) (r : TooEarly) : Type 0 where
  pub process_is : r.process.now ≡ process_name i p
  pub node_is : r.node.now ≡ place_name i p
  pub start_is : r.start ≡ start_of plan p
  pub release_is : r.release ≡ (process_at i p).release
  pub some : 0 < r.by
  pub lacking : r.start + r.by ≡ r.release

-- it ends after its deadline or the horizon, whichever comes first
pub record IsTooLate (i : Instance) (plan : Plan) (p : ℕ) (r : TooLate) : Type 0 where
  pub process_is : r.process.now ≡ process_name i p
  pub node_is : r.node.now ≡ place_name i p
  pub start_is : r.start ≡ start_of plan p
  pub wcet_is : r.wcet ≡ (process_at i p).wcet
  pub end_is : r.end ≡ end_of i plan p
  pub limit_is : IsLimit i p r.limit
  pub latest_is : r.latest ≡ must_end_by i p
  pub some : 0 < r.by
  pub past : r.latest + r.by ≡ r.end

-- processes p and q run together, from when both have started until one ends
pub record IsOverlap (i : Instance) (plan : Plan) (p q : ℕ) (r : Overlap) : Type 0 where
  pub node_is : r.node.now ≡ place_name i p
  pub process_is : r.process.now ≡ process_name i p
  pub start_is : r.start ≡ start_of plan p
  pub end_is : r.end ≡ end_of i plan p
  pub other_is : r.other.now ≡ process_name i q
  pub other_start_is : r.other_start ≡ start_of plan q
  pub other_end_is : r.other_end ≡ end_of i plan q
  pub some : 0 < r.by
  pub together : max r.start r.other_start + r.by ≡ min r.end r.other_end

-- the second process of link l starts before the first has ended
pub record IsBrokenLink (i : Instance) (plan : Plan) (l : ℕ) (r : BrokenLink) : Type 0 where
  pub link_is : r.link ≡ l
  pub before_is : r.before.now ≡ process_name i (link_at i l).before
  pub end_is : r.end ≡ end_of i plan (link_at i l).before
  pub after_is : r.after.now ≡ process_name i (link_at i l).after
  pub start_is : r.start ≡ start_of plan (link_at i l).after
  pub node_is : r.node.now ≡ place_name i (link_at i l).after
  pub some : 0 < r.by
  pub lacking : r.start + r.by ≡ r.end
