use Rattle.std.proofs.Common.{◌≡◌, ◌≢◌, ℕ, ◌<◌, ◌*◌, ◌≤◌, slice_index, sum_by, take}
use Rattle.ttp_model.specs.declared.limits.TheConstants.{MOST_DURATION}
use Rattle.tt_choice.specs.Extremes.{dur_most}
use Rattle.tt_choice.proofs.choice.Choice.offset_most.Given as goal

abbrev pub invariant-loop-m : goal.invariant-loop-m
invariant-loop-m l = (l.sum ≡ sum_by (dur_most l.instance l.self) (take l.m-index l.self.prefix)) × (l.sum ≤ l.m-index * MOST_DURATION) × ((k : ℕ) → k < l.m-index → slice_index l.self.prefix k ≢ l.n)
