use Rattle.std.proofs.Common.{arith}
use Rattle.ttp_model.proofs.PlanNumbers.{chain-le, path_bound-le-delay}
use Rattle.ttp_model.proofs.laws.path_bound_is_lower_bound.Goals as goal

pub returns-clause-chains : goal.returns-clause-chains
returns-clause-chains c = λ i plan p time w v chain. chain-le i plan w v p time chain

pub returns-clause-bound : goal.returns-clause-bound
returns-clause-bound c = λ i bound w is plan v. path_bound-le-delay i plan w v bound is

pub returns-clause-one : goal.returns-clause-one
returns-clause-one c = λ i a b first second. omega (arith, first.greatest second.last b second.reached, second.greatest first.last a first.reached)
