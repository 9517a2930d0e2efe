use Rattle.std.proofs.Common.{◌*◌, ◌+◌}
use Rattle.cert_check.proofs.judge.+threads.Given as goal

abbrev pub decreases-Judge::share : goal.decreases-Judge::share
decreases-Judge::share g l = 2 * l.others + 1

abbrev pub decreases-go_on : goal.decreases-go_on
decreases-go_on g l = 2 * l.others
