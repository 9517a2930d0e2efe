use Rattle.std.proofs.Common.{string_bytes}
use Rattle.rates_command.specs.Cycles.{AddsLines, IsChainLine}
use Rattle.rates_command.proofs.cycle_text.put_chains.Given as goal

abbrev pub invariant-loop-x : goal.invariant-loop-x
invariant-loop-x l = AddsLines (IsChainLine l.rates l.plan) l.x (string_bytes l.initial.text) (string_bytes l.text)
