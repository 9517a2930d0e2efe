use Rattle.std.proofs.Common.{subst}
use Rattle.plan_questions.specs.declared.sought.Sought.{Sought}
use Rattle.plan_questions.specs.Searches.{IsShown, Tells}
use Rattle.instance_variants.specs.Only.{only}
use Rattle.plan_questions.proofs.Decided.{begun_turned}
use Rattle.plan_questions.proofs.Told.{whole_told}
use Rattle.plan_questions.proofs.conflicts.first.first_answer.Goals as goal

pub returns-in-Found : goal.returns-in-Found
returns-in-Found g c =
    let i = c.args.instance.now in
    let whole = whole_told i c.args.asking.now.options c.in_ok-kept.kept c.in_ok-delay.field-0 c.nodes-nodes.ensures.instance c.in_ok-kept.ensures c.in_ok-delay.ensures in
    subst (λ (sought : Sought). Tells i c.args.asking.now.options sought) c.in-Found.is whole

pub returns-in-Open : goal.returns-in-Open
returns-in-Open g c =
    let i = c.args.instance.now in
    let whole = whole_told i c.args.asking.now.options c.in_ok-kept.kept c.in_ok-delay.field-0 c.nodes-nodes.ensures.instance c.in_ok-kept.ensures c.in_ok-delay.ensures in
    record { cert = c.in-Open.cert; left = subst (λ (sought : Sought). Tells i c.args.asking.now.options sought) c.in-Open.is whole }

pub returns-in_ok-turn-in-Absent : goal.returns-in_ok-turn-in-Absent
returns-in_ok-turn-in-Absent g c =
    let i = c.args.instance.now in
    let options = c.args.asking.now.options in
    let kept = c.in_ok-kept.kept in
    let begun = c.in_ok-conflict-in-Absent in
    let shown : IsShown (only i kept) options c.in-Absent.cert = rw c.in-Absent.is at c.in_ok-delay.ensures in
    begun_turned i options kept c.in-Absent.cert begun.conflict c.turn.new.conflict c.in_ok-kept.ensures shown begun.ensures.kept begun.ensures.cert
    begun.ensures.needed begun.ensures.pending c.turn.ensures.kept c.turn.ensures.cert c.turn.ensures.needed c.turn.ensures.pending
