use Rattle.std.proofs.Common.{arith, length, ap}
use Rattle.tt_moves.proofs.Agreeing.{twins_from_agree, agree_from_twins}
use Rattle.tt_moves.proofs.exchanges.twins.Goals as goal

pub returns : goal.returns
returns c =
    let i = c.args.instance.now in
    let same = ap length c.processes-count.ensures.value in
    (λ holds. twins_from_agree i c.args.p c.args.q (omega (arith, same)) (omega (arith, same)) (c.agree.ensures.0 holds), λ t. c.agree.ensures.1 (agree_from_twins i c.args.p c.args.q t))
