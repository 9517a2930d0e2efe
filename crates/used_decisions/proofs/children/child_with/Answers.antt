use Rattle.std.proofs.Common.{◌<◌, length, true, arith, ap}
use Rattle.ttp_model.specs.Instance.{Instance}
use Rattle.used_decisions.specs.Children.{is_free}
use Rattle.used_decisions.proofs.FreeNodes.{free_where, passes_in_range}
use Rattle.used_decisions.proofs.children.child_with.Goals as goal

pub returns-then-is_none : goal.returns-then-is_none
returns-then-is_none c =
    let path = c.args.path.now in
    let n = c.args.n in
    let free = free_where path.turns n c.place_of.result true c.place_of.ensures.value (rw c.if-is_none.true at c.is_none.ensures) in
    let inside : n < length path.instance.nodes =
    omega (arith, c.if-n-nodes.true, ap length c.nodes.ensures.value, ap (λ (i : Instance). length i.nodes) c.instance.ensures) in
    rw c.free_below.ensures (passes_in_range (is_free path.turns) (length path.instance.nodes) n inside free)
