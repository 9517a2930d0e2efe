use Rattle.std.proofs.Common.{arith, sym, ◌∙◌}
use Rattle.std.proofs.lemmas.List.{length-map}
use Rattle.ttp_model.specs.Delays.{delay}
use Rattle.ttp_model.proofs.PlanNumbers.{order_small}
use Rattle.plan_format.proofs.Spaced.{text_pushed}
use Rattle.plan_format.proofs.ValidPlans.{HasText-from_valid}
use Rattle.plan_format.proofs.printing.push_plan.Goals as goal

pub push_order-requires-clause-some : goal.push_order-requires-clause-some
push_order-requires-clause-some c =
    rw c.as_slice.ensures (omega (arith, c.requires.valid.order.all, c.nodes-nodes.ensures.instance.limits.nodes_least))

pub push_order-requires-clause-nodes : goal.push_order-requires-clause-nodes
push_order-requires-clause-nodes c = rw c.as_slice.ensures (order_small c.args.instance.now c.args.plan.now c.requires.valid)

pub push_lines-requires : goal.push_lines-requires
push_lines-requires c = rw c.as_slice-2.ensures (c.requires.valid.lengths.capacities ∙ sym (length-map c.args.instance.now.nodes (λ n. n.name)))

pub push_lines-requires-2 : goal.push_lines-requires-2
push_lines-requires-2 c = rw c.as_slice-3.ensures (c.requires.valid.lengths.starts ∙ sym (length-map c.args.instance.now.processes (λ p. p.name)))

pub push_lines-requires-3 : goal.push_lines-requires-3
push_lines-requires-3 c = rw c.as_slice-4.ensures (c.requires.valid.lengths.rounds ∙ sym (length-map c.args.instance.now.messages (λ m. m.name)))

pub push_channels-requires : goal.push_channels-requires
push_channels-requires c = rw c.as_slice-5.ensures c.requires.valid.lengths.channels

pub returns : goal.returns
returns c = record {
  value = HasText-from_valid c.args.instance.now c.args.plan.now c.nodes-nodes.ensures.instance c.requires.valid;
  spelled =
      text_pushed c.args.instance.now c.args.plan.now (delay c.args.instance.now c.args.plan.now)
      c.args.text.now.items c.push_head.new.text.items c.push_order.new.text.items
      c.push_lines.new.text.items c.push_lines-2.new.text.items c.push_lines-3.new.text.items c.push_channels.new.text.items
      c.requires.empty (rw (← c.delay.ensures.value) c.in_ok-push_head.ensures) (rw (← c.as_slice.ensures) c.in_ok-push_order.ensures)
      (rw (← c.as_slice-2.ensures) c.in_ok-push_lines.ensures) (rw (← c.as_slice-3.ensures) c.in_ok-push_lines-2.ensures)
      (rw (← c.as_slice-4.ensures) c.in_ok-push_lines-3.ensures) (rw (← c.as_slice-5.ensures) c.in_ok-push_channels.ensures);
}
