-- One more message: the node sends it on the channel and it makes a demand, or it counts there for nothing.
use Rattle.std.proofs.Common.{◌≡◌, ◌+◌, ◌<◌, ◌++◌, ◌∷◌, [], List, length, refl, arith, subst, sym, ap, ◌∙◌, length-append}
use Rattle.ttp_model.specs.Instance.{Instance, message_at, source_of}
use Rattle.tt_infer.specs.Premises.{counts_on}
use Rattle.tt_choice.specs.Choice.{Choice}
use Rattle.load_bounds.specs.declared.demands.Demand.{Demand}
use Rattle.load_bounds.specs.Gathered.{AreSendingsOn}
use Rattle.load_bounds.proofs.Gathered.{sending_on, one_more_on, no_more_uncounted, no_more_on}
use Rattle.load_bounds.proofs.loads.sendings_on.Goals as goal
use Rattle.load_bounds.proofs.loads.sendings_on.Goals.{then-source_of-node+then-counts_on, else-source_of-node, else-source_of-node-via-then-source_of-node+else-counts_on, else-source_of-node-via-else-source_of-node}

pub loop-m-preserved : goal.loop-m-preserved
loop-m-preserved c =
    let i = c.args.facts.now.instance in
    let x = c.args.facts.now.choice in
    let f = c.args.facts.now.known in
    let k = c.args.channel in
    let m = c.loop-m.m in
    let P : List Demand → Type 0 = λ ds. AreSendingsOn i x f k c.args.node (m + 1) ds in
    let source : c.source_of.result ≡ source_of i m = c.source_of.ensures.value ∙ ap (λ (j : Instance). source_of j m) c.instance-instance.ensures.value in
    let here = ap (λ (y : Choice). counts_on y k m) c.choice-choice.ensures.value in
    elim c.if-source_of-node.branch [
      | then-source_of-node+then-counts_on w ↦
          let node : source_of i m ≡ c.args.node = sym source ∙ w.if-source_of-node.true in
          let same : w.message_at.result.now ≡ message_at i m = w.message_at.ensures.value ∙ ap (λ (j : Instance). message_at j m) c.instance-instance.ensures.value in
          let added : c.if-source_of-node.sendings ≡ c.loop-m.sendings ++ sending_on i f m ∷ [] = w.sendings-is ∙ w.add.ensures ∙ rw (w.lo-from.ensures, w.top-until.ensures, same) refl in
          record {
            few = omega (arith, ap length added, length-append c.loop-m.sendings (sending_on i f m ∷ []));
            so_far = subst P (sym added) (one_more_on i x f k c.args.node m c.loop-m.sendings c.loop-m.invariant.so_far (sym (w.counts_on.ensures ∙ here) ∙ w.if-counts_on.true) node);
          }
      | else-source_of-node w ↦ record {
        few = omega (arith, ap length w.sendings-is);
        so_far = subst P (sym w.sendings-is) (elim w.else-source_of-node.branch [
          | else-source_of-node-via-then-source_of-node+else-counts_on w' ↦ no_more_uncounted i x f k c.args.node m c.loop-m.sendings c.loop-m.invariant.so_far (sym (w'.counts_on.ensures ∙ here) ∙ w'.if-counts_on.false)
          | else-source_of-node-via-else-source_of-node w' ↦ no_more_on i x f k c.args.node m c.loop-m.sendings c.loop-m.invariant.so_far (λ is. w'.if-source_of-node.false (source ∙ is))
        ]);
      }
    ]

pub counts_on-requires : goal.counts_on-requires
counts_on-requires c =
    let inside : c.loop-m.m < length c.args.facts.now.instance.messages = omega (arith, ap length c.messages.ensures.value, ap (λ (j : Instance). length j.messages) c.instance-instance.ensures.value, c.loop-m-test.true) in
    rw c.choice-choice.ensures.value (omega (arith, inside, c.choice-choice.ensures.inference.choice.channels_length))
