-- An instance in which all may end later keeps all rules, and is the same where nothing is put off.
use Rattle.std.proofs.Common.{◌≡◌, ℕ, ◌<◌, ◌≤◌, suc, List, [], ◌∷◌, length, map, slice_index_or, arith, refl, ap, ◌∙◌}
use Rattle.ttp_model.specs.declared.parts.Cluster.{Cluster}
use Rattle.ttp_model.specs.declared.parts.Node.{Node}
use Rattle.ttp_model.specs.declared.parts.Process.{Process}
use Rattle.ttp_model.specs.declared.parts.Link.{Link}
use Rattle.ttp_model.specs.declared.parts.Message.{Message}
use Rattle.ttp_model.specs.declared.error.Place.TheVariants.{AtCluster, AtProcess}
use Rattle.ttp_model.specs.Limits.{most_ticks}
use Rattle.ttp_model.specs.Instance.{Instance, instance_with, no_process}
use Rattle.ttp_model.specs.Rules.{IsInstance}
use Rattle.instance_variants.specs.Variants.{HasWindows, timed}
use Rattle.instance_variants.specs.Later.{later, later_process, put_off}
use Rattle.instance_variants.proofs.VariedRules.{rules_varied}
use Rattle.instance_variants.proofs.VariedPlans.{timed_variant}
use Rattle.instance_variants.proofs.LaterProcesses.{deadline_is, differ, release_kept, wcet_kept}

module _ (i : Instance) (w : IsInstance i) (x : ℕ) where
  inside_old : (p : ℕ) → p < length (later i x).processes → p < length i.processes
  inside_old p there = omega (arith, there, (differ i x).all)

  windows : HasWindows (later i x)
  windows = record {
    horizon_least = omega (arith, (w.ranges AtCluster).horizon_least);
    horizon = omega arith;
    wcet_least = λ p there. let is = inside_old p there in omega (arith, (w.ranges (AtProcess p) is).wcet_least, wcet_kept i x p is);
    windows = λ p there.
        let is = inside_old p there in
        omega (arith, w.deadlines p is, (w.ranges (AtProcess p) is).deadline, deadline_is i x p is, release_kept i x p is, wcet_kept i x p is);
    deadlines = λ p there. omega (arith, deadline_is i x p (inside_old p there));
  }

  pub rules_later : IsInstance (later i x)
  rules_later =
      let variant = timed_variant i (put_off x i.cluster.horizon) (later i x).processes (differ i x) in
      rules_varied i (timed i (put_off x i.cluster.horizon) (later i x).processes) variant w windows

-- what is at most the latest that can be said stays where it isn't put off
put_off_none : (tick : ℕ) → tick ≤ most_ticks → put_off 0 tick ≡ tick
put_off_none tick small = omega (arith, small)

same_process : (p : Process) → p.deadline ≤ most_ticks → later_process 0 p ≡ p
same_process p small = ap (λ (deadline : ℕ). record p { deadline = deadline }) (put_off_none p.deadline small)

same_processes : (ps : List Process) → ((k : ℕ) → k < length ps → (slice_index_or ps k no_process).deadline ≤ most_ticks) → map (later_process 0) ps ≡ ps
same_processes [] small = refl
same_processes (p ∷ ps) small =
    ap (λ (one : Process). one ∷ map (later_process 0) ps) (same_process p (small 0 (omega arith)))
    ∙ ap (λ (rest : List Process). p ∷ rest) (same_processes ps (λ k below. small (suc k) (omega (arith, below))))

same_horizon : (i : Instance) (ps : List Process) → put_off 0 i.cluster.horizon ≡ i.cluster.horizon → ps ≡ i.processes
    → record i { cluster = record i.cluster { horizon = put_off 0 i.cluster.horizon }; processes = ps } ≡ i
same_horizon i ps horizon same =
    ap (λ (h : ℕ). record i { cluster = record i.cluster { horizon = h }; processes = ps }) horizon
    ∙ ap (λ (qs : List Process). record i { processes = qs }) same

pub same_instance : (i : Instance) → IsInstance i → later i 0 ≡ i
same_instance i w =
    same_horizon i (later i 0).processes (put_off_none i.cluster.horizon (w.ranges AtCluster).horizon)
    (same_processes i.processes (λ k below. (w.ranges (AtProcess k) below).deadline))

-- tables that are its own keep all rules
pub tables_keep_rules : (i : Instance) (x : ℕ)
    → (cluster : Cluster) (nodes : List Node) (processes : List Process) (links : List Link) (messages : List Message)
    → IsInstance i → cluster ≡ (later i x).cluster → nodes ≡ i.nodes → processes ≡ (later i x).processes → links ≡ i.links → messages ≡ i.messages
    → IsInstance (instance_with cluster nodes processes links messages)
tables_keep_rules i x cluster nodes processes links messages w a b c e f = rw (a, b, c, e, f) (rules_later i w x)
