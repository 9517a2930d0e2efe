use Rattle.std.proofs.Common.{[], ◌++◌, take}
use Rattle.std.specs.List.{flat_map}
use Rattle.plan_sheets.specs.Deliveries.{delivery_text}
use Rattle.plan_sheets.specs.Lines.{IsSheet, text_of}
use Rattle.plan_sheets.proofs.deliveries.put_message.Given as goal

abbrev pub invariant-loop-q : goal.invariant-loop-q
invariant-loop-q l = IsSheet l.sheet (text_of l.initial.sheet ++ flat_map (delivery_text l.instance l.plan l.m) (take l.q-index l.receivers)) []
