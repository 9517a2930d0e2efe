use Rattle.std.proofs.Common.{◌<◌, ℕ, IsTrue, slice_index}
use Rattle.ttp_model.specs.Rules.{continues_name}
use Rattle.ttp_model.proofs.name.is_name.Given as goal

abbrev pub invariant-loop-byte : goal.invariant-loop-byte
invariant-loop-byte l = (k : ℕ) → k < l.byte-index → IsTrue (continues_name (slice_index l.bytes k))
