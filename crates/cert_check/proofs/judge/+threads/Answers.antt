use Rattle.std.proofs.Common.{rules}
use Rattle.cert_check.specs.Waiting.{RunCloses}
use Rattle.cert_check.proofs.ClosedRuns.{all_of_both}
use Rattle.cert_check.proofs.judge.+threads.Goals as goal

pub returns-clause-closed : goal.returns-clause-closed
returns-clause-closed g t c =
    all_of_both (RunCloses c.args.self.now.instance.now c.args.self.now.low c.args.leaves.now)
    c.join_mut-places.result.0.items c.join_mut-places.result.1.items c.places_of_both.result.items (search rules) (search rules) c.places_of_both.ensures
