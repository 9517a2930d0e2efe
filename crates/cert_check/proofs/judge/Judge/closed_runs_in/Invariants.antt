use Rattle.std.proofs.Common.{◌≡◌, All}
use Rattle.cert_check.specs.Waiting.{RunCloses}
use Rattle.cert_check.proofs.judge.Judge.closed_runs_in.Given as goal

abbrev pub invariant-loop : goal.invariant-loop
invariant-loop g l = record {
  of : l.room.facts.instance ≡ l.self.instance.now;
  closed : All (RunCloses l.self.instance.now l.self.low l.leaves) l.closed.items;
}
