use Rattle.std.proofs.Common.{arith, slice_index}
use Rattle.std.proofs.lemmas.Bool.{both_ways}
use Rattle.ttp_model.proofs.Raising.{raised_more, raised_same}
use Rattle.earliest_starts.specs.Starts.{GoesBefore, end_in}
use Rattle.earliest_starts.proofs.starts.earliest_start.Goals as goal
use Rattle.earliest_starts.proofs.starts.earliest_start.Goals.{then-is_before, else-is_before}

pub loop-q-preserved : goal.loop-q-preserved
loop-q-preserved c =
    let goes = GoesBefore c.args.choice.now c.args.p in
    let ends = end_in c.args.instance.now c.args.starts.now in
    let floor = slice_index c.args.floors.now c.args.p in
    let seen = c.loop-q.invariant in
    elim c.if-is_before.branch [
      | then-is_before w ↦
          let holds = rw c.is_before.ensures at w.if-is_before.true in
          let later = rw w.end.ensures.value at w.max-start.ensures in
          rw (w.start-is, later) (record {
            raised = raised_more goes ends floor c.loop-q.q c.loop-q.start seen.raised holds;
            small = omega (arith, seen.small, w.end.ensures.small, w.end.ensures.value);
          })
      | else-is_before w ↦
          let not = rw c.is_before.ensures at w.if-is_before.false in
          rw w.start-is (record {
            raised = raised_same goes ends floor c.loop-q.q c.loop-q.start seen.raised (λ holds. absurd (both_ways _ not holds));
            small = seen.small;
          })
    ]
