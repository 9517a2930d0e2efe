use Rattle.std.proofs.Common.{[], ◌++◌, codes}
use Rattle.std.specs.List.{flat_map, range_with_len}
use Rattle.plan_sheets.specs.Lines.{IsSheet}
use Rattle.plan_sheets.specs.Slots.{round_text}
use Rattle.plan_sheets.proofs.slots.slots.Given as goal

abbrev pub invariant-loop-round : goal.invariant-loop-round
invariant-loop-round l = IsSheet l.sheet (codes "round,position,channel,node,start,frame,frame_end,end,capacity,used,messages\n" ++ flat_map (round_text l.instance l.plan) (range_with_len 0 l.round)) []
