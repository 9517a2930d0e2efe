use Rattle.std.proofs.Common.{[], ◌++◌, codes}
use Rattle.std.specs.List.{flat_map, range_with_len}
use Rattle.plan_sheets.specs.Dispatch.{node_text}
use Rattle.plan_sheets.specs.Lines.{IsSheet}
use Rattle.plan_sheets.proofs.dispatch.dispatches.Given as goal

abbrev pub invariant-loop-node : goal.invariant-loop-node
invariant-loop-node l = IsSheet l.sheet (codes "node,process,start,end,release,deadline,slack\n" ++ flat_map (node_text l.instance l.plan) (range_with_len 0 l.node)) []
