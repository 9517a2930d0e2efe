use Rattle.std.proofs.Common.{[], ◌++◌}
use Rattle.std.specs.List.{flat_map, range_with_len}
use Rattle.plan_sheets.specs.Lines.{IsSheet, text_of}
use Rattle.plan_sheets.specs.Slots.{position_text}
use Rattle.plan_sheets.proofs.slots.put_round.Given as goal

abbrev pub invariant-loop-k : goal.invariant-loop-k
invariant-loop-k l = IsSheet l.sheet (text_of l.initial.sheet ++ flat_map (position_text l.instance l.plan l.round) (range_with_len 0 l.k)) []
