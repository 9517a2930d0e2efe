use Rattle.std.proofs.Common.{◌≡◌, ◌++◌, string_bytes}
use Rattle.std.specs.List.{flat_map, range_with_len}
use Rattle.plan_sheets.specs.Processes.{process_text}
use Rattle.plan_sheets.proofs.pictures.processes.put_processes.Given as goal

abbrev pub invariant-loop-p : goal.invariant-loop-p
invariant-loop-p l = string_bytes l.text ≡ string_bytes l.initial.text ++ flat_map (process_text l.canvas l.instance l.plan) (range_with_len 0 l.p)
