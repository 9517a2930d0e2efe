use Rattle.std.proofs.Common.{◌≡◌, length}
use Rattle.file_commands.proofs.joining.open_certificates.Given as goal

abbrev pub invariant-loop-name : goal.invariant-loop-name
invariant-loop-name l = length l.files.items ≡ l.name-index
