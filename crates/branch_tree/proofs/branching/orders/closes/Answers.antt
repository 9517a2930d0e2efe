use Rattle.tt_choice.proofs.Children.{turned}
use Rattle.branch_tree.proofs.branching.orders.closes.Goals as goal

pub returns-clause-is_open : goal.returns-clause-is_open
returns-clause-is_open c = λ closed.
    let here = rw (c.choice.ensures.value, c.facts-facts.ensures.value) at (c.is_open.ensures.0 c.if-not-is_open.false) in
    turned c.args.instance.now c.args.reached.now.current.facts.choice c.args.p c.args.q here
