use Rattle.std.proofs.Common.{string_bytes}
use Rattle.sentences.specs.Shown.{Gains, IsShown}
use Rattle.sentences.proofs.shown.put_shown.Given as goal

abbrev pub invariant-loop-byte : goal.invariant-loop-byte
invariant-loop-byte l = Gains IsShown (string_bytes l.initial.text) (string_bytes l.text)
