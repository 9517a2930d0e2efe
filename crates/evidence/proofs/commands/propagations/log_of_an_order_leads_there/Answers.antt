use Rattle.evidence.proofs.Decided.{led_there}
use Rattle.evidence.proofs.commands.propagations.log_of_an_order_leads_there.Goals as goal

pub returns : goal.returns
returns c = led_there c.args.propagator.now _ _ c.in_ok-decide.ensures.ok c.log-log.ensures.is
