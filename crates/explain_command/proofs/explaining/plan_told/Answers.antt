use Rattle.std.proofs.Common.{string_bytes}
use Rattle.explain_command.specs.Plans.{TellsPlanBytes}
use Rattle.explain_command.proofs.Told.{both_told, never_asked, no_plan_told, stated_at}
use Rattle.explain_command.proofs.explaining.plan_told.Goals as goal

pub returns-in-Instance-clause-ok : goal.returns-in-Instance-clause-ok
returns-in-Instance-clause-ok g c =
    let problem = c.in-Instance.instance in
    let has = stated_at (g.I.Read.remaining c.args.instance.now) c.in_ok-text.field-0 problem c.in-Instance.is c.in_ok-text.ensures.ok in
    both_told _ _ problem has TellsPlanBytes string_bytes c.told_of_plan-told.result c.told_of_plan-told.ensures.ok

pub returns-in-Instance-clause-err : goal.returns-in-Instance-clause-err
returns-in-Instance-clause-err g c =
    let problem = c.in-Instance.instance in
    let has = stated_at (g.I.Read.remaining c.args.instance.now) c.in_ok-text.field-0 problem c.in-Instance.is c.in_ok-text.ensures.ok in
    no_plan_told _ _ problem has c.told_of_plan-told.result c.told_of_plan-told.ensures.err

pub returns-in-Instance-clause-unread : goal.returns-in-Instance-clause-unread
returns-in-Instance-clause-unread g c =
    let problem = c.in-Instance.instance in
    let has = stated_at (g.I.Read.remaining c.args.instance.now) c.in_ok-text.field-0 problem c.in-Instance.is c.in_ok-text.ensures.ok in
    never_asked _ _ problem has
