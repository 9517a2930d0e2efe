use Rattle.std.proofs.Common.{◌≡◌, ◌∙◌, ◌<◌, arith, ap, sym}
use Rattle.ttp_model.specs.Limits.{most_ticks}
use Rattle.rates_model.specs.declared.parts.RatesProcess.{RatesProcess}
use Rattle.rates_model.specs.Cycles.{least_multiple}
use Rattle.rates_model.proofs.Multiples.{fold_from, fold_more, least_multiple-le}
use Rattle.rates_model.proofs.cycles.cycle_of.Goals as goal

pub returns-in_default : goal.returns-in_default
returns-in_default c =
    let from = fold_from (λ (p : RatesProcess). p.period) c.args.processes.now c.loop-process.process-index c.process-item.result c.loop-process-test.true c.process-item.is in
    let past : most_ticks < least_multiple c.loop-process.cycle c.process-item.result.period = c.in_default.ensures in
    omega (arith, rw c.loop-process.invariant.so_far at past, from)

pub loop-process-preserved : goal.loop-process-preserved
loop-process-preserved c =
    let more = fold_more (λ (p : RatesProcess). p.period) c.args.processes.now c.loop-process.process-index c.process-item.result c.loop-process-test.true c.process-item.is in
    let next : c.in-Some.next ≡ least_multiple c.loop-process.cycle c.process-item.result.period = c.in-Some.ensures.0 in
    record {
      so_far = next ∙ ap (λ h. least_multiple h c.process-item.result.period) c.loop-process.invariant.so_far ∙ sym more;
      some = omega (arith, next, c.loop-process.invariant.some, least_multiple-le c.loop-process.cycle c.process-item.result.period);
      few = c.in-Some.ensures.1;
    }
