use Rattle.side_by_side.proofs.Made.{made_allowed, made_bound, made_lower}
use Rattle.certificate.specs.Trees.{trees_of}
use Rattle.side_by_side.proofs.joined.join_all.Goals as goal

pub returns-clause-low : goal.returns-clause-low
returns-clause-low c =
    let i = c.args.instance.now in
    let least = rw (c.past_horizon.ensures.value, c.as_slice.ensures.value) at c.lowest-low.ensures in
    rw c.new.ensures (made_bound i c.in_ok-nodes.nodes.items c.lowest-low.result c.in_ok-nodes.ensures.right least)

pub returns-clause-allowed : goal.returns-clause-allowed
returns-clause-allowed c =
    let i = c.args.instance.now in
    let nodes = c.in_ok-nodes.nodes.items in
    let least = rw (c.past_horizon.ensures.value, c.as_slice.ensures.value) at c.lowest-low.ensures in
    let low = made_bound i nodes c.lowest-low.result c.in_ok-nodes.ensures.right least in
    rw (c.new.ensures, c.of_answers.ensures) (made_allowed i (trees_of nodes) c.lowest-low.result c.past_horizon.ensures.instance low)

pub returns-clause-bound : goal.returns-clause-bound
returns-clause-bound c =
    let i = c.args.instance.now in
    let nodes = c.in_ok-nodes.nodes.items in
    let least = rw (c.past_horizon.ensures.value, c.as_slice.ensures.value) at c.lowest-low.ensures in
    rw c.new.ensures
    (made_lower i (trees_of nodes) c.lowest-low.result c.past_horizon.ensures.instance
    (made_bound i nodes c.lowest-low.result c.in_ok-nodes.ensures.right least))
