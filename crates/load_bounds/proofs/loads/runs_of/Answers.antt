-- One more process: it is the node's and makes a demand, or it is another's.
use Rattle.std.proofs.Common.{◌≡◌, ◌≢◌, ◌+◌, ◌++◌, ◌∷◌, [], List, length, refl, arith, subst, sym, ap, ◌∙◌, length-append}
use Rattle.ttp_model.specs.declared.parts.Process.{Process}
use Rattle.ttp_model.specs.Instance.{Instance, process_at, node_of}
use Rattle.load_bounds.specs.declared.demands.Demand.{Demand}
use Rattle.load_bounds.specs.Gathered.{AreRuns}
use Rattle.load_bounds.proofs.Gathered.{run_of, one_more_run, no_more_run}
use Rattle.load_bounds.proofs.loads.runs_of.Goals as goal
use Rattle.load_bounds.proofs.loads.runs_of.Goals.{then-process-node, else-process-node}

pub loop-p-preserved : goal.loop-p-preserved
loop-p-preserved c =
    let i = c.args.facts.now.instance in
    let f = c.args.facts.now.known in
    let p = c.loop-p.p in
    let P : List Demand → Type 0 = λ ds. AreRuns i f c.args.node (p + 1) ds in
    let same : c.process_at-process.result.now ≡ process_at i p = c.process_at-process.ensures.value ∙ ap (λ (j : Instance). process_at j p) c.instance-instance.ensures.value in
    elim c.if-process-node.branch [
      | then-process-node w ↦
          let node : node_of i p ≡ c.args.node = ap (λ (x : Process). x.node) (sym same) ∙ w.if-process-node.true in
          let added : c.if-process-node.runs ≡ c.loop-p.runs ++ run_of i f p ∷ [] = w.runs-is ∙ w.add.ensures ∙ rw (w.es-from.ensures, w.le-until.ensures, same) refl in
          record {
            few = omega (arith, ap length added, length-append c.loop-p.runs (run_of i f p ∷ []));
            so_far = subst P (sym added) (one_more_run i f c.args.node p c.loop-p.runs c.loop-p.invariant.so_far node);
          }
      | else-process-node w ↦
          let other : node_of i p ≢ c.args.node = λ is. w.if-process-node.false (ap (λ (x : Process). x.node) same ∙ is) in
          record {
            few = omega (arith, ap length w.runs-is);
            so_far = subst P (sym w.runs-is) (no_more_run i f c.args.node p c.loop-p.runs c.loop-p.invariant.so_far other);
          }
    ]
