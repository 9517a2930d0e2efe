use Rattle.std.proofs.Common.{◌<◌, ◌≤◌, length, min, arith}
use Rattle.used_decisions.proofs.LevelBits.{joined_none, joined_one, joined_all}
use Rattle.used_decisions.proofs.levels.join_words.Goals as goal

pub loop-k-init : goal.loop-k-init
loop-k-init c = joined_none c.args.words.now.items c.args.others.now

pub loop-k-preserved : goal.loop-k-preserved
loop-k-preserved c =
    let here : c.loop-k.k < length c.args.words.now.items = omega (arith, c.loop-k-test.true, c.min-count.ensures, c.len.ensures) in
    joined_one c.args.words.now.items c.args.others.now c.loop-k.words.items c.loop-k.k c.index_mut.result.now c.loop-k.invariant here c.index_mut.ensures.value

pub returns-clause-value : goal.returns-clause-value
returns-clause-value c = λ k inside.
    let done : min (length c.args.words.now.items) (length c.args.others.now) ≤ c.loop-k.k = omega (arith, c.loop-k-test.false, c.min-count.ensures, c.len.ensures) in
    joined_all c.args.words.now.items c.args.others.now c.loop-k.words.items c.loop-k.k k c.loop-k.invariant done inside
