use Rattle.std.proofs.Common.{arith}
use Rattle.ttp_model.proofs.ValidPlans.{greatest_more}
use Rattle.rates_model.specs.Rates.{chain_at}
use Rattle.endless_schedules.specs.Aging.{window_of}
use Rattle.endless_schedules.proofs.windows.greatest_window.Goals as goal

pub loop-k-preserved : goal.loop-k-preserved
loop-k-preserved c =
    let a = c.args.aging.now in
    let more = greatest_more (window_of a.rates.now (chain_at a.rates.now a.chain)) c.loop-k.k in
    omega (arith, c.max-greatest.ensures, c.window_of.ensures, c.loop-k.invariant, more)
