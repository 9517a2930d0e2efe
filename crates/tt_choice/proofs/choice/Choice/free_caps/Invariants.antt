use Rattle.std.proofs.Common.{◌≡◌, ◌≤◌, take, count_by, is_none}
use Rattle.tt_choice.proofs.choice.Choice.free_caps.Given as goal

abbrev pub invariant-loop-fixed : goal.invariant-loop-fixed
invariant-loop-fixed l = (l.free ≡ count_by is_none (take l.fixed-index l.self.fixed)) × (l.free ≤ l.fixed-index)
