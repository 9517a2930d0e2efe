use Rattle.used_decisions.proofs.LevelBits.{AreJoined}
use Rattle.used_decisions.proofs.levels.join_words.Given as goal

abbrev pub invariant-loop-k : goal.invariant-loop-k
invariant-loop-k l = AreJoined l.fn.words.items l.others l.k l.words.items
