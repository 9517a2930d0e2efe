use Rattle.std.proofs.Common.{◌∙◌, ◌*◌, ℕ, ap, sym}
use Rattle.used_decisions.proofs.LevelBits.{joined, room}
use Rattle.used_decisions.proofs.levels.Levels.join.Goals as goal

pub returns-clause-value : goal.returns-clause-value
returns-clause-value c =
    rw (← c.self.view_is, ← c.other.view_is)
    (joined c.self.inside.words.items c.join_words.new.words.items c.other.inside.words.items c.join_words.ensures.room (rw c.as_slice.ensures.value at c.join_words.ensures.value))

pub returns-clause-room : goal.returns-clause-room
returns-clause-room c =
    rw (← c.self.view_is)
    (room c.join_words.new.words.items ∙ (ap (λ (k : ℕ). k * 64) c.join_words.ensures.room ∙ sym (room c.self.inside.words.items)))
