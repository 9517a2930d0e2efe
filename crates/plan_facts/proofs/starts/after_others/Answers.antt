use Rattle.std.proofs.Common.{◌≡◌, ◌∙◌, ℕ, length, slice_index, arith, ap}
use Rattle.ttp_model.specs.Instance.{node_of}
use Rattle.ttp_model.specs.Network.{is_process_of}
use Rattle.ttp_model.specs.Plans.{end_of, start_of}
use Rattle.ttp_model.proofs.Raising.{raised_none, raised_same, raised_more}
use Rattle.ttp_model.proofs.Indices.{raised_listed}
use Rattle.plan_facts.specs.Earliest.{GoesBefore}
use Rattle.plan_facts.proofs.Listed.{listed_is_on, before_is_on}
use Rattle.plan_facts.proofs.starts.after_others.Goals as goal
use Rattle.plan_facts.proofs.starts.after_others.Goals.{then-end-start, else-end-start}

pub loop-q-init : goal.loop-q-init
loop-q-init c = record { within = omega arith; raised = raised_none _ _ _ }

pub loop-q-preserved : goal.loop-q-preserved
loop-q-preserved c =
    let i = c.args.instance.now in
    let xs = c.processes_on-q-items.result.now in
    let P = λ (j : ℕ). GoesBefore i c.args.plan.now c.args.p (slice_index xs j) in
    let f = λ (j : ℕ). end_of i c.args.plan.now (slice_index xs j) in
    let list = rw c.node_of.ensures.value at c.processes_on-q-items.ensures.value in
    let one_node = listed_is_on i (node_of i c.args.p) c.loop-q.q-index xs list c.loop-q-test.true in
    let start : c.from-start.result ≡ start_of c.args.plan.now c.args.p = c.from-start.ensures ∙ ap (λ xs. slice_index xs c.args.p) c.as_slice.ensures in
    elim c.if-end-start.branch [
      | then-end-start w ↦ record {
        within = omega (arith, c.loop-q-test.true);
        raised = rw w.time-is (rw w.max-time.ensures (rw c.end_of-end.ensures.value (raised_more P f c.args.floor c.loop-q.q-index c.loop-q.time c.loop-q.invariant.raised (one_node, omega (arith, c.end_of-end.ensures.value, w.if-end-start.true, start)))));
      }
      | else-end-start w ↦ record {
        within = omega (arith, c.loop-q-test.true);
        raised = rw w.time-is (raised_same P f c.args.floor c.loop-q.q-index c.loop-q.time c.loop-q.invariant.raised (λ goes. absurd (omega (arith, goes.1, w.if-end-start.false, c.end_of-end.ensures.value, start))));
      }
    ]

pub returns : goal.returns
returns c =
    let i = c.args.instance.now in
    let plan = c.args.plan.now in
    let list = rw c.node_of.ensures.value at c.processes_on-q-items.ensures.value in
    raised_listed (GoesBefore i plan c.args.p) (end_of i plan) c.args.floor (is_process_of i (node_of i c.args.p)) (length i.processes) c.loop-q.time c.loop-q.q-index _ (λ q _. before_is_on i plan c.args.p q) list c.loop-q.invariant.within c.loop-q-test.false c.loop-q.invariant.raised
