use Rattle.std.proofs.Common.{◌≢◌}
use Rattle.ttp_model.specs.Lists.{EachBelow}
use Rattle.question_commands.specs.Names.{texts_of, word_at}
use Rattle.question_commands.proofs.names.is_first.Given as goal

abbrev pub invariant-loop-j : goal.invariant-loop-j
invariant-loop-j l = EachBelow l.j (λ j. word_at (texts_of l.words) j ≢ word_at (texts_of l.words) l.k)
