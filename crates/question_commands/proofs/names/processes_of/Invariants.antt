use Rattle.std.proofs.Common.{◌≡◌, length, slice_index}
use Rattle.ttp_model.specs.Lists.{EachBelow}
use Rattle.question_commands.specs.Names.{HasName, IsFirst, texts_of, word_at}
use Rattle.question_commands.proofs.names.processes_of.Given as goal

abbrev pub invariant-loop-k : goal.invariant-loop-k
invariant-loop-k l = record {
  all : length l.processes.items ≡ l.k;
  each : EachBelow l.k (λ k. HasName l.instance (word_at (texts_of l.words) k) (slice_index l.processes.items k));
  once : EachBelow l.k (IsFirst (texts_of l.words));
}
