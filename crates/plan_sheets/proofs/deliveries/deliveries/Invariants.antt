use Rattle.std.proofs.Common.{[], ◌++◌, codes}
use Rattle.std.specs.List.{flat_map, range_with_len}
use Rattle.plan_sheets.specs.Deliveries.{message_text}
use Rattle.plan_sheets.specs.Lines.{IsSheet}
use Rattle.plan_sheets.proofs.deliveries.deliveries.Given as goal

abbrev pub invariant-loop-m : goal.invariant-loop-m
invariant-loop-m l = IsSheet l.sheet (codes "message,sender,receiver,bytes,round,channel,node,ready,slot,slot_end,arrived,needed\n" ++ flat_map (message_text l.instance l.plan) (range_with_len 0 l.m)) []
