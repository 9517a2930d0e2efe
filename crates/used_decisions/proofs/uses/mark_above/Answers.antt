use Rattle.std.proofs.Common.{◌≡◌, ◌<◌, length, arith, refl}
use Rattle.tt_choice.specs.Kept.{fixes_above}
use Rattle.used_decisions.proofs.Marked.{told_one_more}
use Rattle.used_decisions.proofs.uses.mark_above.Goals as goal

pub loop-n-preserved : goal.loop-n-preserved
loop-n-preserved c =
    let nodes : length c.nodes.result.now ≡ length c.args.path.now.instance.nodes = rw (c.nodes.ensures.value, c.instance.ensures) refl in
    let there : c.loop-n.n < length c.args.path.now.instance.nodes = omega (arith, c.loop-n-test.true, nodes) in
    told_one_more fixes_above c.args.path.now.turns c.args.levels.now c.loop-n.levels c.insert_branch.new.levels c.loop-n.n c.above_least.result
    c.loop-n.invariant c.insert_branch.ensures.grown (c.above_least.ensures there) c.insert_branch.ensures.told

pub returns-clause-told : goal.returns-clause-told
returns-clause-told c = λ room used n inside.
    let nodes : length c.nodes.result.now ≡ length c.args.path.now.instance.nodes = rw (c.nodes.ensures.value, c.instance.ensures) refl in
    c.loop-n.invariant.told room n (omega (arith, inside, c.loop-n-test.false, nodes))
