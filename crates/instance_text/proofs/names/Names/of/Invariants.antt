use Rattle.std.proofs.Common.{map}
use Rattle.instance_text.proofs.IndexLaws.{HasFrom}
use Rattle.instance_text.proofs.names.Names.of.Given as goal

abbrev pub invariant-loop-index : goal.invariant-loop-index
invariant-loop-index g l = HasFrom l.first l.index (map g.T.Named.name_of l.items)
