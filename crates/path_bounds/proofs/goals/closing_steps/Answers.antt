use Rattle.path_bounds.proofs.goals.closing_steps.Goals as goal

pub returns-in-At-clause-bound : goal.returns-in-At-clause-bound
returns-in-At-clause-bound c = λ bound is le. absurd (rw c.in-At.is at (c.in_ok-reached.ensures.bound bound is le))
