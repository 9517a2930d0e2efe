-- By how many ticks a time is too short. Own profile.
use Rattle.std.specs.Prelude.{◌≡◌, ℕ, ◌+◌, ◌*◌, ◌<◌}
use Rattle.ttp_model.specs.Instance.{Instance, process_at}
use Rattle.ttp_model.specs.Names.{process_name}
use Rattle.instance_reasons.specs.declared.times.NoTime.{NoTime}
use Rattle.instance_reasons.specs.declared.times.ShortLead.{ShortLead}
use Rattle.instance_reasons.specs.declared.times.ShortTrail.{ShortTrail}

-- the lead is below twice the precision
pub record IsShortLead (i : Instance) (r : ShortLead) : Type 0 where
  pub lead_is : r.lead ≡ i.cluster.lead
  pub precision_is : r.precision ≡ i.cluster.precision
  pub twice_is : r.twice ≡ 2 * r.precision
  pub some : 0 < r.by
  pub lacking : r.lead + r.by ≡ r.twice

-- the trail is below the precision
pub record IsShortTrail (i : Instance) (r : ShortTrail) : Type 0 where
  pub trail_is : r.trail ≡ i.cluster.trail
  pub precision_is : r.precision ≡ i.cluster.precision
  pub some : 0 < r.by
  pub lacking : r.trail + r.by ≡ r.precision

-- process p, started at its release, ends after its deadline
pub record IsNoTime (i : Instance) (p : ℕ) (r : NoTime) : Type 0 where
  pub process_is : r.process.now ≡ process_name i p
  pub release_is : r.release ≡ (process_at i p).release
  pub wcet_is : r.wcet ≡ (process_at i p).wcet
  pub end_is : r.end ≡ r.release + r.wcet
  pub deadline_is : r.deadline ≡ (process_at i p).deadline
  pub some : 0 < r.by
  pub lacking : r.deadline + r.by ≡ r.end
