-- Where times are no tighter, each window is left, and each plan keeps the times that it kept.
use Rattle.std.proofs.Common.{◌≡◌, ℕ, ◌<◌, ◌≤◌, List, length, arith}
use Rattle.ttp_model.specs.declared.error.Place.TheVariants.{AtCluster, AtProcess}
use Rattle.ttp_model.specs.declared.parts.Process.{Process}
use Rattle.ttp_model.specs.declared.plan.Plan.{Plan}
use Rattle.ttp_model.specs.Limits.{most_ticks}
use Rattle.ttp_model.specs.Instance.{Instance, process_at}
use Rattle.ttp_model.specs.Rules.{IsInstance}
use Rattle.ttp_model.specs.Plans.{IsValid}
use Rattle.instance_variants.specs.Variants.{Variant, varied, HasWindows, IsNoneLonger, IsVariant, sent_otherwise, AreSentAlike}
use Rattle.instance_variants.proofs.Varied.{end_no_later}
use Rattle.instance_variants.proofs.VariedRules.{rules_varied}
use Rattle.instance_variants.proofs.VariedPlans.{times_by_ends, valid_by_times}

-- a process may start earlier and end later
pub record IsLooserProcess (p q : Process) : Type 0 where
  pub wcet : q.wcet ≡ p.wcet
  pub release : q.release ≤ p.release
  pub deadline : p.deadline ≤ q.deadline
  pub small : q.deadline ≤ most_ticks

pub record IsLooser (i : Instance) (v : Variant) : Type 0 where
  pub variant : IsVariant i v
  pub horizon : i.cluster.horizon ≤ v.horizon
  pub small : v.horizon ≤ most_ticks
  pub process : (p : ℕ) → p < length i.processes → IsLooserProcess (process_at i p) (process_at (varied i v) p)

module _ (i : Instance) (v : Variant) (looser : IsLooser i v) where
  there : (p : ℕ) → p < length v.processes → p < length i.processes
  there p inside = omega (arith, inside, looser.variant.processes.all)

  windows_looser : IsInstance i → HasWindows (varied i v)
  windows_looser good = record {
    horizon_least = omega (arith, (good.ranges AtCluster).horizon_least, looser.horizon);
    horizon = looser.small;
    wcet_least = λ p inside. omega (arith, (good.ranges (AtProcess p) (there p inside)).wcet_least, (looser.process p (there p inside)).wcet);
    windows = λ p inside.
        let more = looser.process p (there p inside) in
        omega (arith, good.deadlines p (there p inside), more.release, more.wcet, more.deadline);
    deadlines = λ p inside. (looser.process p (there p inside)).small;
  }

  pub rules_looser : IsInstance i → IsInstance (varied i v)
  rules_looser good = rules_varied i v looser.variant good (windows_looser good)

  pub valid_looser : (plan : Plan) (rounds channels : List ℕ) → AreSentAlike v plan rounds channels → IsValid i plan
      → IsValid (varied i v) (sent_otherwise plan rounds channels)
  valid_looser plan rounds channels alike valid =
      let none : IsNoneLonger i.processes v.processes = λ p inside. omega (arith, (looser.process p inside).wcet) in
      let later = end_no_later i v looser.variant plan rounds channels none in
      valid_by_times i v looser.variant plan rounds channels alike valid
      (times_by_ends i v looser.variant plan rounds channels alike valid none
      (λ p inside. omega (arith, valid.released p (there p inside), (looser.process p (there p inside)).release))
      (λ p inside.
      let ends = valid.in_time p (there p inside) in
      (omega (arith, later p, ends.0, (looser.process p (there p inside)).deadline), omega (arith, later p, ends.1, looser.horizon))))
