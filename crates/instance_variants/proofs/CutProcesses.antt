-- The processes of a cut instance, one by one.
use Rattle.std.proofs.Common.{◌≡◌, ℕ, ◌<◌, ◌≤◌, if◌then◌else◌, List, Bool, true, false, length, min, arith, refl, ap}
use Rattle.std.proofs.lemmas.List.FromFn.{get_or-map-range_with_len, length-map-range_with_len}
use Rattle.ttp_model.specs.declared.parts.Process.{Process}
use Rattle.ttp_model.specs.Instance.{Instance, no_process, process_at}
use Rattle.instance_variants.specs.Variants.{DifferInTimes}
use Rattle.instance_variants.specs.Cut.{cut, cut_deadline, cut_process}

-- a number that is cut where a test holds
pub cut-le : (b : Bool) (x d : ℕ) → (if b then min x d else x) ≤ x
cut-le true x d = omega arith
cut-le false x d = omega arith

pub cut-true : (b : Bool) (x d : ℕ) → b ≡ true → (if b then min x d else x) ≤ d
cut-true true x d is = omega arith
cut-true false x d is = absurd cc

pub le-cut : (b : Bool) (least x d : ℕ) → least ≤ x → (b ≡ true → least ≤ d) → least ≤ (if b then min x d else x)
le-cut true least x d below within = omega (arith, within refl)
le-cut false least x d below within = below

module _ (i : Instance) (ps : List ℕ) (d : ℕ) where
  count : length (cut i ps d).processes ≡ length i.processes
  count = length-map-range_with_len (cut_process i ps d) 0 (length i.processes)

  at_place : (p : ℕ) → p < length i.processes → process_at (cut i ps d) p ≡ cut_process i ps d p
  at_place p inside = get_or-map-range_with_len (cut_process i ps d) 0 (length i.processes) p p no_process inside (omega arith)

  pub differ : DifferInTimes i.processes (cut i ps d).processes
  differ = record {
    all = count;
    name = λ p inside. ap (λ (process : Process). process.name) (at_place p inside);
    node = λ p inside. ap (λ (process : Process). process.node) (at_place p inside);
  }

  pub wcet_kept : (p : ℕ) → p < length i.processes → (process_at (cut i ps d) p).wcet ≡ (process_at i p).wcet
  wcet_kept p inside = ap (λ (process : Process). process.wcet) (at_place p inside)

  pub release_kept : (p : ℕ) → p < length i.processes → (process_at (cut i ps d) p).release ≡ (process_at i p).release
  release_kept p inside = ap (λ (process : Process). process.release) (at_place p inside)

  pub deadline_is : (p : ℕ) → p < length i.processes → (process_at (cut i ps d) p).deadline ≡ cut_deadline i ps d p
  deadline_is p inside = ap (λ (process : Process). process.deadline) (at_place p inside)
