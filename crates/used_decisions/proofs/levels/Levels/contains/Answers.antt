use Rattle.std.proofs.Common.{◌<◌, ◌≤◌, ◌∙◌, ◌/◌, length, arith, sym, le-ltb}
use Rattle.used_decisions.proofs.LevelBits.{has_flag, has_none}
use Rattle.used_decisions.proofs.levels.Levels.contains.Goals as goal

pub returns-then-word-len : goal.returns-then-word-len
returns-then-word-len c =
    let words = c.self.inside.words.items in
    let there : c.args.level / 64 < length words = omega (arith, c.if-word-len.true, c.len.ensures) in
    rw (← c.self.view_is) (has_flag words c.args.level c.index.result.now there c.index.ensures)

pub returns-else-word-len : goal.returns-else-word-len
returns-else-word-len c =
    let words = c.self.inside.words.items in
    let behind : length words ≤ c.args.level / 64 = omega (arith, c.if-word-len.false, c.len.ensures) in
    rw (← c.self.view_is) (le-ltb (c.args.level / 64) c.len.result (omega (arith, c.if-word-len.false)) ∙ sym (has_none words c.args.level behind))
