use Rattle.std.proofs.Common.{◌≡◌, Ok, take}
use Rattle.cert_check.specs.Waiting.{Judges}
use Rattle.cert_check.proofs.judge.Judge.run.Given as goal

abbrev pub invariant-loop-k : goal.invariant-loop-k
invariant-loop-k g l = record {
  of : l.room.facts.instance ≡ l.self.instance.now;
  closed : Judges l.self.instance.now l.self.low (take l.k l.run) (Ok tt);
}
