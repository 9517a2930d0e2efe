use Rattle.std.proofs.Common.{◌≡◌, ◌∙◌, ℕ, ◌+◌, ◌-◌, ◌<◌, length, drop, slice_index, arith, sym, ap}
use Rattle.rates_model.specs.Rates.{period_of}
use Rattle.rates_model.specs.Ages.{carried}
use Rattle.rates_model.specs.declared.error.RatesPlace.TheVariants.{AtProcess}
use Rattle.endless_schedules.proofs.Aged.{carried_last}
use Rattle.endless_schedules.proofs.Waits.{carried_back, carried_small, last_small, waits_length}
use Rattle.endless_schedules.proofs.carrying.carried.Goals as goal

pub loop-k-init : goal.loop-k-init
loop-k-init c =
    let rho = c.args.rates.now in
    let through = c.args.through.now in
    let last : length through - 1 < length through = omega (arith, c.requires.some) in
    let inside = c.requires.inside (length through - 1) 0 last in
    record {
      inside = last;
      so_far = sym (carried_last rho c.args.job through (length through - 1) (omega (arith, c.requires.some)));
      small = last_small c.args.job (period_of rho (slice_index through (length through - 1))) c.requires.early (c.processes-processes.ensures.keeps.ranges (AtProcess (slice_index through (length through - 1))) inside).1;
    }

pub bounds-waits-k : goal.bounds-waits-k
bounds-waits-k c = omega (arith, waits_length c.args.rates.now c.args.through.now c.args.waits.now c.requires.waits, c.loop-k.invariant.inside, c.loop-k-test.true)

pub loop-k-preserved : goal.loop-k-preserved
loop-k-preserved c =
    let rho = c.args.rates.now in
    let through = c.args.through.now in
    let back : c.loop-k.k ≡ c.loop-k.k - 1 + 1 = omega (arith, c.loop-k-test.true) in
    let within : c.loop-k.k - 1 + 1 < length through = omega (arith, c.loop-k-test.true, c.loop-k.invariant.inside) in
    let of_p : c.from-in-loop-k.result ≡ period_of rho (slice_index through (c.loop-k.k - 1)) = c.from-in-loop-k.ensures ∙ ap (λ p. p.period) c.process_at-before.ensures.value in
    let of_q : c.from.result ≡ period_of rho (slice_index through (c.loop-k.k - 1 + 1)) = c.from.ensures ∙ ap (λ p. p.period) c.process_at-after.ensures.value in
    record {
      inside = omega (arith, within);
      so_far =
          carried_back rho through c.args.waits.now c.requires.waits c.args.job (c.loop-k.k - 1) within c.loop-k.job _ _ _ _ of_p of_q c.saturating_sub-job.ensures
          (c.loop-k.invariant.so_far ∙ ap (λ (n : ℕ). carried rho (drop n through) c.args.job) back) c.from-in-loop-k-2.ensures;
      small =
          carried_small rho through c.args.waits.now c.requires.waits c.args.job (c.loop-k.k - 1) within c.loop-k.job _ _ _ _ of_p of_q c.saturating_sub-job.ensures
          _ (rw back at c.loop-k.invariant.small);
    }
