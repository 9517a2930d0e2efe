use Rattle.std.proofs.Common.{ℕ, List}
use Rattle.solve_command.proofs.folder.written_beside.Given as goal

abbrev pub invariant-loop-number : goal.invariant-loop-number
invariant-loop-number g l = (bytes : List ℕ) → g.D.Folder.has_held l.folder l.name bytes → g.D.Folder.has_held l.initial.folder l.name bytes
