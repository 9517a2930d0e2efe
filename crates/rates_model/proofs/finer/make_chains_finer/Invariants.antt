use Rattle.std.proofs.Common.{◌≡◌, ◌++◌, map, take, drop}
use Rattle.rates_model.specs.Finer.{finer_chain}
use Rattle.rates_model.proofs.finer.make_chains_finer.Given as goal

abbrev pub invariant-loop-chain : goal.invariant-loop-chain
invariant-loop-chain l = l.chains ≡ map (finer_chain l.finer) (take l.chain-index l.fn.chains) ++ drop l.chain-index l.fn.chains
