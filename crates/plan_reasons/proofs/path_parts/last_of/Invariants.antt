use Rattle.std.proofs.Common.{ℕ, ◌<◌, ◌≤◌, length, slice_index}
use Rattle.plan_reasons.proofs.path_parts.last_of.Given as goal

abbrev pub invariant-loop-p : goal.invariant-loop-p
invariant-loop-p l = record {
  inside : l.last < length l.ends;
  most : (k : ℕ) → k < l.p → slice_index l.ends k ≤ slice_index l.ends l.last;
  first : (k : ℕ) → k < l.last → slice_index l.ends k < slice_index l.ends l.last;
}
