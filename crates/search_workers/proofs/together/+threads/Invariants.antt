use Rattle.std.proofs.Common.{◌*◌, ◌+◌}
use Rattle.search_workers.proofs.together.+threads.Given as goal

abbrev pub decreases-Round::share : goal.decreases-Round::share
decreases-Round::share g l = 3 * l.stint.threads + 1

abbrev pub decreases-Round::apart : goal.decreases-Round::apart
decreases-Round::apart g l = 3 * (l.low.threads + l.high.threads)

abbrev pub decreases-Round::apart-first : goal.decreases-Round::apart-first
decreases-Round::apart-first g l = 3 * l.low.threads + 2

abbrev pub decreases-Round::apart-second : goal.decreases-Round::apart-second
decreases-Round::apart-second g l = 3 * l.high.threads + 2
