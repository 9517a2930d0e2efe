-- A worked instance in which one process takes longer, before an earlier horizon: each process still has a window.
use Rattle.std.proofs.Common.{◌≡◌, ℕ, zero, suc, ◌+◌, ◌<◌, ◌≤◌, List, [], ◌∷◌, slice_index_or, codes, lit≤, refl, arith}
use Rattle.ttp_model.specs.declared.parts.Process.{Process}
use Rattle.ttp_model.specs.Instance.{no_process}
use Rattle.ttp_model.specs.Rules.{IsInstance}
use Rattle.ttp_model.specs.Worked.{one_message, process_on}
use Rattle.tt_infer.proofs.OneMessageRules.{one_message_is_instance}
use Rattle.instance_variants.specs.Variants.{DifferInTimes, HasWindows, timed, with_times}
use Rattle.instance_variants.proofs.VariedRules.{rules_varied}
use Rattle.instance_variants.proofs.VariedPlans.{timed_variant}

abbrev longer : List Process
longer = process_on (codes "p") 0 5 ∷ process_on (codes "q") 1 2 ∷ []

name_same : (p : ℕ) → p < 2 → (slice_index_or longer p no_process).name ≡ (slice_index_or one_message.processes p no_process).name
name_same zero inside = refl
name_same (suc zero) inside = refl
name_same (suc (suc p)) inside = absurd (omega (arith, inside))

node_same : (p : ℕ) → p < 2 → (slice_index_or longer p no_process).node ≡ (slice_index_or one_message.processes p no_process).node
node_same zero inside = refl
node_same (suc zero) inside = refl
node_same (suc (suc p)) inside = absurd (omega (arith, inside))

differ : DifferInTimes one_message.processes longer
differ = record { all = refl; name = name_same; node = node_same }

wcet_least : (p : ℕ) → p < 2 → 1 ≤ (slice_index_or longer p no_process).wcet
wcet_least zero inside = lit≤ tt
wcet_least (suc zero) inside = lit≤ tt
wcet_least (suc (suc p)) inside = absurd (omega (arith, inside))

has_window : (p : ℕ) → p < 2
    → (slice_index_or longer p no_process).release + (slice_index_or longer p no_process).wcet ≤ (slice_index_or longer p no_process).deadline
has_window zero inside = lit≤ tt
has_window (suc zero) inside = lit≤ tt
has_window (suc (suc p)) inside = absurd (omega (arith, inside))

deadline_most : (p : ℕ) → p < 2 → (slice_index_or longer p no_process).deadline ≤ 1000000
deadline_most zero inside = lit≤ tt
deadline_most (suc zero) inside = lit≤ tt
deadline_most (suc (suc p)) inside = absurd (omega (arith, inside))

windows : HasWindows (with_times one_message 50 longer)
windows = record {
  horizon_least = lit≤ tt;
  horizon = lit≤ tt;
  wcet_least = wcet_least;
  windows = has_window;
  deadlines = deadline_most;
}

pub longer_keeps_rules : IsInstance (with_times one_message 50 longer)
longer_keeps_rules = rules_varied one_message (timed one_message 50 longer) (timed_variant one_message 50 longer differ) one_message_is_instance windows
