use Rattle.std.proofs.Common.{◌<◌, ◌≤◌, ℕ}
use Rattle.rates_model.specs.Parts.{rates_of}
use Rattle.rates_model.specs.Rules.{ReadsAt}
use Rattle.rates_model.proofs.rules.chains.unread_at.Given as goal

abbrev pub invariant-loop-place : goal.invariant-loop-place
invariant-loop-place l = (k : ℕ) → 1 ≤ k → k < l.place → ReadsAt (rates_of l.parts) l.c k
