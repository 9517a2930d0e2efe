use Rattle.std.proofs.Common.{All, take}
use Rattle.command_line.specs.Names.{IsOtherFile}
use Rattle.command_line.proofs.joining.is_one_of.Given as goal

abbrev pub invariant-loop-other : goal.invariant-loop-other
invariant-loop-other l = All (λ other. IsOtherFile l.file other.now) (take l.other-index l.files)
