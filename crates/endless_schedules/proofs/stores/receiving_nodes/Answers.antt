use Rattle.std.proofs.Common.{◌≡◌, ◌∙◌, ◌<◌, length, ℕ, get_or, sym, ap}
use Rattle.std.proofs.lemmas.List.Elements.{All-push}
use Rattle.rates_model.specs.Rates.{node_of}
use Rattle.rates_model.specs.declared.parts.RatesProcess.{RatesProcess}
use Rattle.endless_schedules.proofs.Nodes.{node_added, node_there}
use Rattle.endless_schedules.proofs.stores.receiving_nodes.Goals.{then-not-has_node+in_ok-push, else-not-has_node}
use Rattle.endless_schedules.proofs.stores.receiving_nodes.Goals as goal

pub loop-receiver-preserved : goal.loop-receiver-preserved
loop-receiver-preserved c =
    let rho = c.args.rates.now in
    let i = c.loop-receiver.receiver-index in
    let node = c.process_at.result.now.node in
    let is : c.process_at.result.now.node ≡ node_of c.args.rates.now (get_or c.args.receivers.now c.loop-receiver.receiver-index 0) =
    ap (λ (p : RatesProcess). p.node) c.process_at.ensures.value in
    elim c.if-not-has_node.branch [
      | then-not-has_node+in_ok-push w ↦ (
        rw (w.nodes-is, w.in_ok-push.ensures.items)
            (node_added (node_of rho) c.args.receivers.now i node c.loop-receiver.nodes.items c.loop-receiver-test.true is c.loop-receiver.invariant.0
            (rw c.deref.ensures.value at (sym c.has_node.ensures ∙ w.if-not-has_node.true))),
        rw (w.nodes-is, w.in_ok-push.ensures.items)
            (All-push (λ (n : ℕ). n < length rho.nodes) c.loop-receiver.nodes.items node c.loop-receiver.invariant.1 c.process_at.ensures.node),
      )
      | else-not-has_node w ↦ (
        rw w.nodes-is
            (node_there (node_of rho) c.args.receivers.now i node c.loop-receiver.nodes.items c.loop-receiver-test.true is c.loop-receiver.invariant.0
            (rw c.deref.ensures.value at (sym c.has_node.ensures ∙ w.if-not-has_node.false))),
        rw w.nodes-is c.loop-receiver.invariant.1,
      )
    ]
