use Rattle.command_streams.proofs.Outcomes.{written_later}
use Rattle.plan_commands.proofs.Accepted.{proved_stopped, proved_written, unread_instance}
use Rattle.plan_commands.proofs.Certificates.{bound_of_readers, refused_of_readers}
use Rattle.plan_commands.proofs.certified.check_run.Goals as goal

pub returns-in-Ok-read_any_bound-clause-answer : goal.returns-in-Ok-read_any_bound-clause-answer
returns-in-Ok-read_any_bound-clause-answer g c =
    bound_of_readers _ _ _ c.in-Ok.instance c.in-Ok-read_any_bound.low _ _ _ c.in-Ok.ensures.judged c.in-Ok-read_any_bound.ensures.judged c.write_bound.ensures

pub returns-clause-answer : goal.returns-clause-answer
returns-clause-answer g c = refused_of_readers _ _ _ c.in-Ok.instance _ c.in-Err-read_any_bound.fault c.in-Ok.ensures.judged c.in-Err-read_any_bound.ensures.judged

pub returns-in-Ok-read_any_bound-clause-order : goal.returns-in-Ok-read_any_bound-clause-order
returns-in-Ok-read_any_bound-clause-order g c = written_later _ _ _ _ _ c.write_bound.ensures

pub returns-in-Err-clause-only : goal.returns-in-Err-clause-only
returns-in-Err-clause-only g c =
    unread_instance _ (g.I.Read.remaining c.args.instance.now) (g.C.Read.remaining c.args.certificate.now) (g.W.Write.contents c.args.out.now)
    c.in-Err.fault c.in-Err.ensures.only

pub returns-in-Ok-read_any_bound-clause-only : goal.returns-in-Ok-read_any_bound-clause-only
returns-in-Ok-read_any_bound-clause-only g c =
    proved_written _ (g.I.Read.remaining c.args.instance.now) (g.C.Read.remaining c.args.certificate.now) c.in-Ok.instance c.in-Ok-read_any_bound.low
    (g.W.Write.contents c.args.out.now) (g.W.Write.contents c.write_bound.new.out) c.write_bound.result
    c.in-Ok.ensures.only c.in-Ok-read_any_bound.ensures.only c.write_bound.ensures

pub returns-clause-only : goal.returns-clause-only
returns-clause-only g c =
    proved_stopped _ (g.I.Read.remaining c.args.instance.now) (g.C.Read.remaining c.args.certificate.now) c.in-Ok.instance
    (g.W.Write.contents c.args.out.now) c.in-Err-read_any_bound.fault c.in-Ok.ensures.only c.in-Err-read_any_bound.ensures.only
