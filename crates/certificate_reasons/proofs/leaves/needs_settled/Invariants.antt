use Rattle.std.proofs.Common.{◌≡◌, ◌<◌, ℕ, slice_index_or}
use Rattle.ttp_model.specs.declared.step.Step.{Step}
use Rattle.tt_infer.specs.Table.{IsDominance}
use Rattle.certificate_reasons.proofs.leaves.needs_settled.Given as goal

abbrev pub invariant-loop-k : goal.invariant-loop-k
invariant-loop-k l = (j : ℕ) → j < l.k → (s : Step) → slice_index_or l.steps j s ≡ s → ¬ IsDominance s
