-- The processes of an instance in which all may end later, one by one.
use Rattle.std.proofs.Common.{◌≡◌, ℕ, ◌<◌, length, ap}
use Rattle.std.proofs.lemmas.List.{get_or-map, length-map}
use Rattle.ttp_model.specs.declared.parts.Process.{Process}
use Rattle.ttp_model.specs.Instance.{Instance, no_process, process_at}
use Rattle.instance_variants.specs.Variants.{DifferInTimes}
use Rattle.instance_variants.specs.Later.{later, later_process, put_off}

module _ (i : Instance) (x : ℕ) where
  pub count : length (later i x).processes ≡ length i.processes
  count = length-map i.processes (later_process x)

  at_place : (p : ℕ) → p < length i.processes → process_at (later i x) p ≡ later_process x (process_at i p)
  at_place p inside = get_or-map (later_process x) i.processes p no_process no_process inside

  pub differ : DifferInTimes i.processes (later i x).processes
  differ = record {
    all = count;
    name = λ p inside. ap (λ (process : Process). process.name) (at_place p inside);
    node = λ p inside. ap (λ (process : Process). process.node) (at_place p inside);
  }

  pub wcet_kept : (p : ℕ) → p < length i.processes → (process_at (later i x) p).wcet ≡ (process_at i p).wcet
  wcet_kept p inside = ap (λ (process : Process). process.wcet) (at_place p inside)

  pub release_kept : (p : ℕ) → p < length i.processes → (process_at (later i x) p).release ≡ (process_at i p).release
  release_kept p inside = ap (λ (process : Process). process.release) (at_place p inside)

  pub deadline_is : (p : ℕ) → p < length i.processes → (process_at (later i x) p).deadline ≡ put_off x (process_at i p).deadline
  deadline_is p inside = ap (λ (process : Process). process.deadline) (at_place p inside)
