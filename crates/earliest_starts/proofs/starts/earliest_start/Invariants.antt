use Rattle.std.proofs.Common.{◌^◌, ◌<◌, slice_index}
use Rattle.ttp_model.specs.Raising.{IsRaised}
use Rattle.earliest_starts.specs.Starts.{GoesBefore, end_in}
use Rattle.earliest_starts.proofs.starts.earliest_start.Given as goal

abbrev pub invariant-loop-q : goal.invariant-loop-q
invariant-loop-q l = record {
  raised : IsRaised l.q (GoesBefore l.choice l.p) (end_in l.instance l.starts) (slice_index l.floors l.p) l.start;
  small : l.start < 2 ^ 60;
}
