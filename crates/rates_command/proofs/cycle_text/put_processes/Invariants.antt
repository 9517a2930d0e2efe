use Rattle.std.proofs.Common.{string_bytes}
use Rattle.rates_command.specs.Cycles.{AddsLines, IsProcessLine}
use Rattle.rates_command.proofs.cycle_text.put_processes.Given as goal

abbrev pub invariant-loop-p : goal.invariant-loop-p
invariant-loop-p l = AddsLines (IsProcessLine l.rates l.plan) l.p (string_bytes l.initial.text) (string_bytes l.text)
