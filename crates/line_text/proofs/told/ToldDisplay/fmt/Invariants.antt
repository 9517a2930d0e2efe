use Rattle.std.proofs.Common.{◌≡◌, ◌++◌, List, ℕ, drop}
use Rattle.std.specs.Fmt.{HasWritten, IsPlainFormatter}
use Rattle.line_text.specs.Limits.{most_told}
use Rattle.line_text.specs.Told.{told_within}
use Rattle.line_text.proofs.told.ToldDisplay.fmt.Given as goal

abbrev pub invariant-loop-byte : goal.invariant-loop-byte
invariant-loop-byte g l =
    IsPlainFormatter l.initial.f → (written : List ℕ) × HasWritten g.W.Write.write_str_gives l.initial.f written l.f × (written ++ told_within l.room (drop l.byte-index l.bytes) ≡ told_within most_told l.bytes)
