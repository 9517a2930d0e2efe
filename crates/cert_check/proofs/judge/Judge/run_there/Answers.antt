use Rattle.cert_check.specs.Waiting.{Waits}
use Rattle.cert_check.proofs.Runs.{run_of}
use Rattle.cert_check.proofs.judge.Judge.run_there.Goals as goal

pub alone-requires : goal.alone-requires
alone-requires g c = rw c.run_at.ensures (run_of (Waits c.args.self.now.instance.now) c.args.place c.args.leaves.now c.requires.waits)
