use Rattle.question_commands.proofs.Told.{finished_told, told_of_bytes}
use Rattle.question_commands.proofs.why.why_run.Goals as goal

pub returns-in-Ok-clause-answer : goal.returns-in-Ok-clause-answer
returns-in-Ok-clause-answer g c =
    let certificate = g.C.Write.contents in
    let reduced = g.S.Write.contents in
    let out = g.W.Write.contents in
    let told = finished_told c.in-Ok.instance c.args.asking.now.options c.args.wanted (certificate c.args.certificate.now) (certificate c.finished.new.certificate)
    (reduced c.args.reduced.now) (reduced c.finished.new.reduced) (out c.args.out.now) (out c.told_of-told.new.out) c.finished.result
    c.told_of-told.result c.told_of-told.ensures.told c.finished.ensures in
    told_of_bytes (g.I.Read.remaining c.args.instance.now) c.in-Ok.instance c.args.asking.now.options c.args.wanted _ _ _ _ _ _ _ c.in-Ok.ensures.judged told
