use Rattle.search_workers.proofs.Searching.{better_none, better_first}
use Rattle.search_workers.proofs.found.better.Goals as goal

pub returns-in-Some-None : goal.returns-in-Some-None
returns-in-Some-None c = λ i w a b. rw (← c.in-Some-None.is-0) (better_first i c.args.a c.args.b w c.in-Some-None.is-1 a)

pub returns-in-None-default : goal.returns-in-None-default
returns-in-None-default c = λ i w a b. better_none i c.args.a c.args.b w c.in-None-default.is-0 b
