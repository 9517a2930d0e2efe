use Rattle.std.proofs.Common.{ℕ, length, slice_index, arith}
use Rattle.std.proofs.lemmas.Bool.{both_ways}
use Rattle.ttp_model.specs.Instance.{process_at, node_of}
use Rattle.ttp_model.specs.Network.{is_process_of}
use Rattle.ttp_model.proofs.Raising.{raised_none, raised_later, raised_same}
use Rattle.ttp_model.proofs.Indices.{raised_listed}
use Rattle.sought_plans.specs.Known.{le_of}
use Rattle.sought_plans.specs.Dominance.{MayGoBefore}
use Rattle.sought_plans.proofs.Elsewhere.{on_its_node}
use Rattle.sought_plans.proofs.wait.last_end.Goals as goal
use Rattle.sought_plans.proofs.wait.last_end.Goals.{then-end-time+then-may_go_before, else-end-time, else-end-time-via-then-end-time+else-may_go_before, else-end-time-via-else-end-time}

pub loop-x-preserved : goal.loop-x-preserved
loop-x-preserved c =
    let xs = c.processes_on-x-items.result.now in
    let may = λ (j : ℕ). MayGoBefore c.args.instance.now c.args.known.now c.args.p (slice_index xs j) in
    let end = λ (j : ℕ). le_of c.args.known.now (slice_index xs j) in
    let base = (process_at c.args.instance.now c.args.p).release in
    elim c.if-end-time.branch [
      | then-end-time+then-may_go_before w ↦ record {
        within = omega (arith, c.loop-x-test.true);
        raised = rw (w.time-is, c.le-end.ensures) (raised_later may end base c.loop-x.x-index c.loop-x.time c.loop-x.invariant.raised (w.may_go_before.ensures.0 w.if-may_go_before.true) (omega (arith, w.if-end-time.true, c.le-end.ensures)));
      }
      | else-end-time w ↦ record {
        within = omega (arith, c.loop-x-test.true);
        raised = rw w.time-is (raised_same may end base c.loop-x.x-index c.loop-x.time c.loop-x.invariant.raised (λ is. elim w.else-end-time.branch [
          | else-end-time-via-then-end-time+else-may_go_before w' ↦ absurd (both_ways _ w'.if-may_go_before.false (w'.may_go_before.ensures.1 is))
          | else-end-time-via-else-end-time w' ↦ omega (arith, w'.if-end-time.false, c.le-end.ensures)
        ]));
      }
    ]

pub loop-x-init : goal.loop-x-init
loop-x-init c = record { within = omega arith; raised = rw c.process_at.ensures.value (raised_none _ _ _) }

pub returns : goal.returns
returns c =
    let i = c.args.instance.now in
    let f = c.args.known.now in
    let list = rw c.node_of.ensures.value at c.processes_on-x-items.ensures.value in
    raised_listed (MayGoBefore i f c.args.p) (le_of f) (process_at i c.args.p).release (is_process_of i (node_of i c.args.p)) (length i.processes) c.loop-x.time c.loop-x.x-index _ (on_its_node i f c.args.p) list c.loop-x.invariant.within c.loop-x-test.false c.loop-x.invariant.raised
