use Rattle.std.proofs.Common.{◌<◌, ◌≤◌, ◌/◌, length, arith}
use Rattle.used_decisions.proofs.LevelBits.{insert_flag, insert_nowhere}
use Rattle.used_decisions.proofs.levels.Levels.insert.Goals as goal

pub returns-then-word-len : goal.returns-then-word-len
returns-then-word-len c =
    let words = c.self.inside.words.items in
    let there : c.args.level / 64 < length words = omega (arith, c.if-word-len.true, c.len.ensures) in
    rw (← c.self.view_is) (insert_flag words c.args.level c.index_mut.result.now there c.index_mut.ensures.value)

pub returns-else-word-len : goal.returns-else-word-len
returns-else-word-len c =
    let words = c.self.inside.words.items in
    let behind : length words ≤ c.args.level / 64 = omega (arith, c.if-word-len.false, c.len.ensures) in
    rw (← c.self.view_is) (insert_nowhere words c.args.level behind)
