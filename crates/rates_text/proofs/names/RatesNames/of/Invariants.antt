use Rattle.std.proofs.Common.{map}
use Rattle.rates_text.proofs.IndexLaws.{HasFrom}
use Rattle.rates_text.proofs.names.RatesNames.of.Given as goal

abbrev pub invariant-loop-index : goal.invariant-loop-index
invariant-loop-index g l = HasFrom l.first l.index (map g.T.Named.name_of l.items)
