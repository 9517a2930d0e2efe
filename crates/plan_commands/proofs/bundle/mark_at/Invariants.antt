use Rattle.std.proofs.Common.{ℕ, ◌<◌}
use Rattle.plan_commands.specs.Bundles.{IsMark}
use Rattle.plan_commands.proofs.bundle.mark_at.Given as goal

abbrev pub invariant-loop-at : goal.invariant-loop-at
invariant-loop-at l = (earlier : ℕ) → earlier < l.at → ¬ IsMark l.bytes earlier
