use Rattle.plan_commands.proofs.Traced.{has_nodes}
use Rattle.plan_commands.proofs.replay.trace_text.Goals as goal

pub losses_of_words-requires : goal.losses_of_words-requires
losses_of_words-requires c =
    has_nodes c.args.instance.now c.in_ok-medl.medl c.nodes-nodes.ensures.instance c.in_ok-medl.ensures.valid
