use Rattle.step_logs.proofs.propagator.like.Goals as goal

pub new-requires : goal.new-requires
new-requires c = rw (c.instance.ensures.value, c.choice.ensures.value) c.choice.ensures.inference.choice
