use Rattle.std.proofs.Common.{◌≡◌, map, take}
use Rattle.endless_schedules.specs.Times.{waits_along}
use Rattle.endless_schedules.proofs.carrying.waits_of.Given as goal

abbrev pub invariant-loop-chain : goal.invariant-loop-chain
invariant-loop-chain l = l.waits.items ≡ map (λ chain. waits_along l.rates chain.through) (take l.chain-index l.chain-items)
