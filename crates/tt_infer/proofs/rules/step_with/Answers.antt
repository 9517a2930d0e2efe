use Rattle.tt_infer.proofs.rules.step_with.Goals as goal

pub returns-in-One : goal.returns-in-One
returns-in-One c = rw c.in-One.is c.with_one.ensures
