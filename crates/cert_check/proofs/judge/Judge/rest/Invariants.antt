use Rattle.std.proofs.Common.{◌*◌, Ok, take}
use Rattle.cert_check.specs.declared.shares.TheConstants.{RUN}
use Rattle.cert_check.specs.Waiting.{Judges}
use Rattle.cert_check.proofs.judge.Judge.rest.Given as goal

abbrev pub invariant-loop-place : goal.invariant-loop-place
invariant-loop-place g l = Judges l.self.instance.now l.self.low (take (l.place * RUN) l.leaves) (Ok tt)
