use Rattle.std.proofs.Common.{List, ℕ}
use Rattle.plan_commands.specs.Comparisons.{IsCompareAnswer}
use Rattle.json_answers.specs.Telling.{IsEndOr, end_in_memory}
use Rattle.json_answers.proofs.Told.{told_of_four}
use Rattle.plan_commands.proofs.objects.compare_json.Goals as goal

pub returns-clause-answer : goal.returns-clause-answer
returns-clause-answer g c =
    told_of_four end_in_memory IsEndOr _ c.compare_run-end.new.out.items c.compare_run-end.result _ _ _ c.new-text.ensures.items c.tell.ensures
    (λ (i p j q : List ℕ). IsCompareAnswer (record { instance = i; plan = p }) (record { instance = j; plan = q }))
    (g.I.Read.remaining c.args.old_instance.now) (g.P.Read.remaining c.args.old_plan.now) (g.J.Read.remaining c.args.new_instance.now)
    (g.Q.Read.remaining c.args.new_plan.now) c.compare_run-end.ensures.answer
