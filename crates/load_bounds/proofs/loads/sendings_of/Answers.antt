-- One more message: the node sends it and it makes a demand, or another sends it.
use Rattle.std.proofs.Common.{◌≡◌, ◌≢◌, ◌+◌, ◌<◌, ◌++◌, ◌∷◌, [], List, length, refl, arith, subst, sym, ap, ◌∙◌, length-append}
use Rattle.ttp_model.specs.Instance.{Instance, message_at, source_of}
use Rattle.tt_infer.specs.Premises.{copies}
use Rattle.tt_choice.specs.Choice.{Choice}
use Rattle.load_bounds.specs.declared.demands.Demand.{Demand}
use Rattle.load_bounds.specs.Gathered.{AreSendings}
use Rattle.load_bounds.proofs.Gathered.{sending_of, one_more_sending, no_more_sending}
use Rattle.load_bounds.proofs.loads.sendings_of.Goals as goal
use Rattle.load_bounds.proofs.loads.sendings_of.Goals.{then-source_of-node, else-source_of-node}

pub loop-m-preserved : goal.loop-m-preserved
loop-m-preserved c =
    let i = c.args.facts.now.instance in
    let x = c.args.facts.now.choice in
    let f = c.args.facts.now.known in
    let m = c.loop-m.m in
    let P : List Demand → Type 0 = λ ds. AreSendings i x f c.args.node (m + 1) ds in
    let source : c.source_of.result ≡ source_of i m = c.source_of.ensures.value ∙ ap (λ (j : Instance). source_of j m) c.instance-instance.ensures.value in
    elim c.if-source_of-node.branch [
      | then-source_of-node w ↦
          let node : source_of i m ≡ c.args.node = sym source ∙ w.if-source_of-node.true in
          let same : w.message_at.result.now ≡ message_at i m = w.message_at.ensures.value ∙ ap (λ (j : Instance). message_at j m) c.instance-instance.ensures.value in
          let times : w.copies-times.result ≡ copies x m = w.copies-times.ensures.value ∙ ap (λ (y : Choice). copies y m) c.choice-choice.ensures.value in
          let added : c.if-source_of-node.sendings ≡ c.loop-m.sendings ++ sending_of i x f m ∷ [] = w.sendings-is ∙ w.add.ensures ∙ rw (w.lo-from.ensures, w.top-until.ensures, times, same) refl in
          record {
            few = omega (arith, ap length added, length-append c.loop-m.sendings (sending_of i x f m ∷ []));
            so_far = subst P (sym added) (one_more_sending i x f c.args.node m c.loop-m.sendings c.loop-m.invariant.so_far node);
          }
      | else-source_of-node w ↦
          let other : source_of i m ≢ c.args.node = λ is. w.if-source_of-node.false (source ∙ is) in
          record {
            few = omega (arith, ap length w.sendings-is);
            so_far = subst P (sym w.sendings-is) (no_more_sending i x f c.args.node m c.loop-m.sendings c.loop-m.invariant.so_far other);
          }
    ]

pub copies-times-requires : goal.copies-times-requires
copies-times-requires c =
    let inside : c.loop-m.m < length c.args.facts.now.instance.messages = omega (arith, ap length c.messages.ensures.value, ap (λ (j : Instance). length j.messages) c.instance-instance.ensures.value, c.loop-m-test.true) in
    rw c.choice-choice.ensures.value (omega (arith, inside, c.choice-choice.ensures.inference.choice.channels_length))
