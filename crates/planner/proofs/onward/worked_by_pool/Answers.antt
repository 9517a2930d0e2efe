use Rattle.std.proofs.Common.{arith}
use Rattle.std.proofs.lemmas.Result.{IfOk-weaker}
use Rattle.planner.proofs.onward.worked_by_pool.Goals as goal

pub returns-clause-within : goal.returns-clause-within
returns-clause-within g c =
    let within = c.requires.within in
    IfOk-weaker c.pooled.result _ _ (λ s le. omega (arith, le, within, c.len.ensures, c.args.search.pieces.ok.0)) c.pooled.ensures.within
