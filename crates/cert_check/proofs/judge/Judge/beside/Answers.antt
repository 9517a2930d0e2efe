use Rattle.std.proofs.Common.{All, sym, subst}
use Rattle.cert_check.specs.Waiting.{RunCloses}
use Rattle.cert_check.proofs.judge.Judge.beside.Goals as goal

pub rest-requires-clause-closed : goal.rest-requires-clause-closed
rest-requires-clause-closed g c =
    subst (All (RunCloses c.args.self.now.instance.now c.args.self.now.low c.args.leaves.now)) (sym c.as_slice.ensures.value) c.share-closed.ensures.closed
