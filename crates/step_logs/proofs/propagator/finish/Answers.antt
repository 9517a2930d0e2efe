use Rattle.step_logs.proofs.propagator.finish.Goals as goal

pub returns-clause-found : goal.returns-clause-found
returns-clause-found c = rw (c.in_ok-choice.ensures, c.choice-2.ensures.value, c.instance-instance.ensures.value, c.facts-facts.ensures) at c.complete.ensures.found

pub complete-requires : goal.complete-requires
complete-requires c = record { of = rw (c.in_ok-choice.ensures, c.choice-2.ensures.value, c.instance-instance.ensures.value) c.choice-2.ensures.inference.choice }

pub is_complete-requires : goal.is_complete-requires
is_complete-requires c = record { of = rw (c.instance-instance.ensures.value, c.choice.ensures.value) c.choice.ensures.inference.choice }
