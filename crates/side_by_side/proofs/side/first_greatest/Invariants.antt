use Rattle.side_by_side.specs.Found.{IsFoundSoFar, number_at}
use Rattle.side_by_side.proofs.side.first_greatest.Given as goal

abbrev pub invariant-loop-k : goal.invariant-loop-k
invariant-loop-k l = IsFoundSoFar l.k (number_at l.certs l.sides l.depth l.wanted) l.fn.above l.best.number l.best.most
