-- The processes of an instance in which they run longer, one by one.
use Rattle.std.proofs.Common.{◌≡◌, ℕ, ◌+◌, ◌<◌, length, arith, ap, refl}
use Rattle.std.proofs.lemmas.List.FromFn.{get_or-map-range_with_len, length-map-range_with_len}
use Rattle.ttp_model.specs.declared.parts.Process.{Process}
use Rattle.ttp_model.specs.declared.plan.Plan.{Plan}
use Rattle.ttp_model.specs.Instance.{Instance, no_process, node_of, process_at}
use Rattle.ttp_model.specs.Plans.{end_of, sent_from}
use Rattle.instance_variants.specs.Variants.{DifferInTimes, timed}
use Rattle.instance_variants.specs.Grown.{grown, grown_process}
use Rattle.instance_variants.proofs.Varied.{node_same}
use Rattle.instance_variants.proofs.VariedPlans.{timed_variant}

module _ (i : Instance) (growth : ℕ → ℕ) where
  pub count : length (grown i growth).processes ≡ length i.processes
  count = length-map-range_with_len (grown_process i growth) 0 (length i.processes)

  at_place : (p : ℕ) → p < length i.processes → process_at (grown i growth) p ≡ grown_process i growth p
  at_place p inside = get_or-map-range_with_len (grown_process i growth) 0 (length i.processes) p p no_process inside (omega arith)

  pub differ : DifferInTimes i.processes (grown i growth).processes
  differ = record {
    all = count;
    name = λ p inside. ap (λ (process : Process). process.name) (at_place p inside);
    node = λ p inside. ap (λ (process : Process). process.node) (at_place p inside);
  }

  pub wcet_is : (p : ℕ) → p < length i.processes → (process_at (grown i growth) p).wcet ≡ (process_at i p).wcet + growth p
  wcet_is p inside = ap (λ (process : Process). process.wcet) (at_place p inside)

  pub release_kept : (p : ℕ) → p < length i.processes → (process_at (grown i growth) p).release ≡ (process_at i p).release
  release_kept p inside = ap (λ (process : Process). process.release) (at_place p inside)

  pub deadline_kept : (p : ℕ) → p < length i.processes → (process_at (grown i growth) p).deadline ≡ (process_at i p).deadline
  deadline_kept p inside = ap (λ (process : Process). process.deadline) (at_place p inside)

  pub node_kept : (p : ℕ) → node_of (grown i growth) p ≡ node_of i p
  node_kept = node_same i (timed i i.cluster.horizon (grown i growth).processes) (timed_variant i i.cluster.horizon (grown i growth).processes differ)

  module _ (plan : Plan) where
    pub end_is : (p : ℕ) → p < length i.processes → end_of (grown i growth) plan p ≡ end_of i plan p + growth p
    end_is p inside = omega (arith, wcet_is p inside)

    pub sent_from_kept : (m : ℕ) → sent_from (grown i growth) plan m ≡ sent_from i plan m
    sent_from_kept m = rw (node_kept _) refl
