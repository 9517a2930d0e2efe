use Rattle.plan_commands.proofs.Certificates.{bound_of_proof}
use Rattle.plan_commands.proofs.certified.read_long_bound.Goals as goal

pub returns-in-Ok-clause-judged : goal.returns-in-Ok-clause-judged
returns-in-Ok-clause-judged g c =
    bound_of_proof _ c.args.instance.now (g.R.Read.remaining c.args.certificate.now) c.in-Ok.cert c.low.result
    c.nodes-nodes.ensures.instance c.low.ensures c.in-Ok.ensures.judged
