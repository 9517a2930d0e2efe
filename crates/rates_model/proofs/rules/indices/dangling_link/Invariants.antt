use Rattle.std.proofs.Common.{◌<◌, ℕ}
use Rattle.rates_model.specs.Rates.{link_at}
use Rattle.rates_model.specs.Parts.{rates_of}
use Rattle.rates_model.specs.Rules.{IsRatesProcess}
use Rattle.rates_model.proofs.rules.indices.dangling_link.Given as goal

abbrev pub invariant-loop-l : goal.invariant-loop-l
invariant-loop-l l = (k : ℕ) → k < l.l → IsRatesProcess (rates_of l.parts) (link_at (rates_of l.parts) k).before × IsRatesProcess (rates_of l.parts) (link_at (rates_of l.parts) k).after
