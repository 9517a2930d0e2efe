use Rattle.std.proofs.Common.{◌≡◌, take}
use Rattle.endless_schedules.proofs.bounds.copies_of_chains.Given as goal

abbrev pub invariant-loop-chain : goal.invariant-loop-chain
invariant-loop-chain l = l.copies.items ≡ take l.chain-index l.chains
