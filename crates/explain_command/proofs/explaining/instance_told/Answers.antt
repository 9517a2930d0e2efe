use Rattle.std.proofs.Common.{string_bytes}
use Rattle.explain_command.proofs.Told.{good_told, stated_at}
use Rattle.explain_command.proofs.explaining.instance_told.Goals as goal

pub returns-in-Instance-clause-ok : goal.returns-in-Instance-clause-ok
returns-in-Instance-clause-ok g c =
    let problem = c.in-Instance.instance in
    let has = stated_at (g.I.Read.remaining c.args.instance.now) c.in_ok-text.field-0 problem c.in-Instance.is c.in_ok-text.ensures.ok in
    good_told _ problem string_bytes c.described-told.result has c.described-told.ensures.ok
