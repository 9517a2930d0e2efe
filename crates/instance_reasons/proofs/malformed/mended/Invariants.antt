use Rattle.std.proofs.Common.{◌≡◌, string_bytes}
use Rattle.std.specs.List.{flat_map, range_with_len}
use Rattle.instance_reasons.specs.Malformed.{mended_byte}
use Rattle.instance_reasons.proofs.malformed.mended.Given as goal

abbrev pub invariant-loop-k : goal.invariant-loop-k
invariant-loop-k l = string_bytes l.text ≡ flat_map (mended_byte l.name) (range_with_len 0 l.k)
