-- None of the channels so far has a lawful closer.
use Rattle.std.proofs.Common.{◌<◌, ℕ}
use Rattle.ttp_model.specs.declared.step.Step.TheVariants.{XChannel}
use Rattle.load_bounds.specs.Loads.{IsLawfulNow}
use Rattle.load_bounds.proofs.loads.channel_load.Given as goal

abbrev pub invariant-loop-channel : goal.invariant-loop-channel
invariant-loop-channel l = (k a b : ℕ) → k < l.channel → ¬ IsLawfulNow l.facts (XChannel k l.node a b)
