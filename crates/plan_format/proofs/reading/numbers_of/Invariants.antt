use Rattle.plan_format.specs.Names.{part_of}
use Rattle.ttp_model.specs.Names.{names_in}
use Rattle.plan_format.proofs.NumberLoop.{IsReadSoFar}
use Rattle.plan_format.proofs.reading.numbers_of.Given as goal

abbrev pub invariant-loop-k : goal.invariant-loop-k
invariant-loop-k l = IsReadSoFar l.line l.column (names_in l.instance (part_of l.column)) l.text l.k l.numbers.items l.rest
