-- Where all has to end by a tick: plans of no greater delay are valid, and all rules are kept.
use Rattle.std.proofs.Common.{◌≡◌, ℕ, ◌<◌, ◌≤◌, length, min, List, arith, refl, ap}
use Rattle.ttp_model.specs.declared.parts.Cluster.{Cluster}
use Rattle.ttp_model.specs.declared.parts.Node.{Node}
use Rattle.ttp_model.specs.declared.parts.Process.{Process}
use Rattle.ttp_model.specs.declared.parts.Link.{Link}
use Rattle.ttp_model.specs.declared.parts.Message.{Message}
use Rattle.ttp_model.specs.declared.plan.Plan.{Plan}
use Rattle.ttp_model.specs.declared.error.Place.TheVariants.{AtCluster}
use Rattle.ttp_model.specs.Limits.{most_ticks}
use Rattle.ttp_model.specs.Instance.{Instance, instance_with}
use Rattle.ttp_model.specs.Rules.{IsInstance}
use Rattle.ttp_model.specs.Plans.{IsValid, end_of}
use Rattle.ttp_model.specs.Delays.{delay}
use Rattle.ttp_model.proofs.ValidPlans.{greatest_each}
use Rattle.instance_variants.specs.Variants.{DifferInTimes, HasWindows, timed}
use Rattle.instance_variants.specs.Within.{within}
use Rattle.instance_variants.proofs.VariedRules.{own_windows, rules_varied}
use Rattle.instance_variants.proofs.VariedPlans.{timed_variant, valid_across}
use Rattle.instance_variants.proofs.LaterPlans.{greatest_within}

module _ (i : Instance) where
  same_differ : DifferInTimes i.processes i.processes
  same_differ = record { all = refl; name = λ p inside. refl; node = λ p inside. refl }

  module _ (d : ℕ) where
    module _ (plan : Plan) where
      pub within_own : IsValid (within i d) plan → IsValid i plan
      within_own v = valid_across (within i d) i.cluster.horizon i.processes same_differ plan v
          (λ p there. omega arith)
          v.released
          (λ p there. let ends = v.in_time p there in (ends.0, omega (arith, ends.1)))

      pub within_delay : IsValid (within i d) plan → delay i plan ≤ d
      within_delay v = greatest_within (end_of i plan) (length i.processes) d (λ p there. let ends = v.in_time p there in omega (arith, ends.1))

      pub own_within : IsValid i plan → delay i plan ≤ d → IsValid (within i d) plan
      own_within v by = valid_across i (min i.cluster.horizon d) i.processes same_differ plan v
          (λ p there. omega arith)
          v.released
          (λ p there.
          let ends = v.in_time p there in
          (ends.0, omega (arith, ends.1, greatest_each (end_of i plan) (length i.processes) p there, by)))

    module _ (w : IsInstance i) (some : 1 ≤ d) where
      windows : HasWindows (within i d)
      windows = record {
        horizon_least = omega (arith, (w.ranges AtCluster).horizon_least, some);
        horizon = omega (arith, (w.ranges AtCluster).horizon);
        wcet_least = (own_windows i w).wcet_least;
        windows = (own_windows i w).windows;
        deadlines = (own_windows i w).deadlines;
      }

      pub within_lawful : IsInstance (within i d)
      within_lawful =
          let variant = timed_variant i (min i.cluster.horizon d) i.processes same_differ in
          rules_varied i (timed i (min i.cluster.horizon d) i.processes) variant w windows

  pub within_most : IsInstance i → within i most_ticks ≡ i
  within_most w =
      let same : min i.cluster.horizon most_ticks ≡ i.cluster.horizon = omega (arith, (w.ranges AtCluster).horizon) in
      ap (λ (h : ℕ). record i { cluster = record i.cluster { horizon = h } }) same

-- tables that are its own keep all rules
pub tables_keep_rules : (i : Instance) (d : ℕ)
    → (cluster : Cluster) (nodes : List Node) (processes : List Process) (links : List Link) (messages : List Message)
    → IsInstance i → 1 ≤ d → cluster ≡ (within i d).cluster → nodes ≡ i.nodes → processes ≡ i.processes → links ≡ i.links → messages ≡ i.messages
    → IsInstance (instance_with cluster nodes processes links messages)
tables_keep_rules i d cluster nodes processes links messages w some a b c e f = rw (a, b, c, e, f) (within_lawful i d w some)
