use Rattle.std.specs.Io.KnownBytes.{Appends}
use Rattle.plan_questions.specs.Conflicts.{IsNarrowing}
use Rattle.plan_questions.specs.Leaving.{left_to_do}
use Rattle.question_commands.specs.Words.{need_lines}
use Rattle.question_commands.proofs.telling.tell_needs.Given as goal

abbrev pub invariant-needs : goal.invariant-needs
invariant-needs g l = record {
  narrowing : IsNarrowing l.instance l.asking.options l.conflict;
  written : Appends (g.W.Write.contents l.initial.out) (g.W.Write.contents l.out) (need_lines l.instance l.conflict.needed.items);
}

abbrev pub decreases-needs : goal.decreases-needs
decreases-needs g l = left_to_do l.conflict
