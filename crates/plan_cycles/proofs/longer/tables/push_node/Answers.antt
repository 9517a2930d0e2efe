use Rattle.plan_cycles.proofs.BehindCycle.{node_lines}
use Rattle.plan_cycles.proofs.longer.tables.push_node.Goals as goal

pub returns : goal.returns
returns c = λ rounds are.
    let front = rw c.as_slice.ensures.value at c.in_ok-extend_from_slice.ensures.items in
    node_lines c.args.instance.now c.args.plan.now c.args.node rounds c.args.text.now.items c.in_ok-lines.lines.items c.args.behind.now _ _
    c.requires.node are c.in_ok-lines.ensures front c.in_ok-extend_from_slice-2.ensures.items
