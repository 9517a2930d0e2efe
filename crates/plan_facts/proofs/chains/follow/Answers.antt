use Rattle.plan_facts.proofs.Walks.{ends_next}
use Rattle.plan_facts.proofs.chains.follow.Goals as goal

pub returns : goal.returns
returns c = λ count some are. ends_next c.args.instance.now c.processes-processes.ensures.instance count c.args.ends.now.items c.follow_links.new.ends.items
    c.follow_messages.new.ends.items some are c.follow_messages.ensures.chains c.follow_links.ensures.kept c.follow_links.ensures.reach
    c.follow_messages.ensures.kept c.follow_messages.ensures.reach
