use Rattle.std.proofs.Common.{◌≡◌, ◌∙◌, ◌<◌, ◌-◌, ◌^◌, ℕ, List, ◌+◌, length, slice_index, arith, ap, subst}
use Rattle.rates_model.specs.declared.parts.RatesProcess.{RatesProcess}
use Rattle.rates_model.specs.Cycles.{jobs_of}
use Rattle.endless_schedules.proofs.ForEver.{first_start, jitter_of, response_of}
use Rattle.endless_schedules.proofs.Reading.{start_inside, start_read}
use Rattle.endless_schedules.proofs.Tops.{IsBottom, IsTop, bottom_more, top_more}
use Rattle.endless_schedules.proofs.spreads.spread_of.Goals as goal

pub bounds-starts-first : goal.bounds-starts-first
bounds-starts-first c =
    let there : c.loop-k.k < jobs_of c.args.rates.now c.args.p = omega (arith, c.loop-k-test.true, c.jobs_of-k-end.ensures.value) in
    let inside = start_inside c.args.rates.now c.args.plan.now c.args.p c.loop-k.k c.first_job-first.result c.first_job-first.ensures.value c.requires.valid c.requires.inside there in
    omega (arith, inside, ap length c.as_slice-starts.ensures)

pub loop-k-preserved : goal.loop-k-preserved
loop-k-preserved c =
    let rho = c.args.rates.now in
    let plan = c.args.plan.now in
    let k = c.loop-k.k in
    let at : c.from-at.result ≡ slice_index plan.starts (c.first_job-first.result + k) =
    c.from-at.ensures ∙ ap (λ (starts : List ℕ). slice_index starts (c.first_job-first.result + k)) c.as_slice-starts.ensures in
    let read : c.saturating_sub-start.result ≡ first_start rho plan c.args.p k =
    start_read rho plan c.args.p k c.first_job-first.result c.first_job-first.ensures.value c.from-at.result c.from.result c.saturating_sub-start.result at
    (c.from.ensures ∙ c.begin_of.ensures.value) c.saturating_sub-start.ensures in
    record {
      earliest =
          bottom_more (first_start rho plan c.args.p) k c.loop-k.earliest c.saturating_sub-start.result c.min-earliest.result read (2 ^ 64 - 1) (omega (arith, c.saturating_sub-start.type_inv))
          c.loop-k.invariant.earliest c.min-earliest.ensures;
      latest =
          top_more (first_start rho plan c.args.p) k c.loop-k.latest c.saturating_sub-start.result c.max-latest.result read c.loop-k.invariant.latest
          c.max-latest.ensures;
    }

pub returns : goal.returns
returns c =
    let rho = c.args.rates.now in
    let plan = c.args.plan.now in
    let done : c.loop-k.k ≡ jobs_of rho c.args.p = omega (arith, c.loop-k-test.false, c.loop-k.auto.k-end, c.jobs_of-k-end.ensures.value) in
    let bottom = subst (λ (n : ℕ). IsBottom (first_start rho plan c.args.p) (2 ^ 64 - 1) n c.loop-k.earliest) done c.loop-k.invariant.earliest in
    let top = subst (λ (n : ℕ). IsTop (first_start rho plan c.args.p) n c.loop-k.latest) done c.loop-k.invariant.latest in
    let wcet = ap (λ (process : RatesProcess). process.wcet) c.process_at-process.ensures.value in
    let release = ap (λ (process : RatesProcess). process.release) c.process_at-process.ensures.value in
    let keeps = c.processes-processes.ensures.keeps in
    record {
      jitter =
          jitter_of rho plan keeps c.args.p c.requires.inside c.requires.valid c.loop-k.earliest c.loop-k.latest c.saturating_sub.result (2 ^ 64 - 1) bottom top
          c.saturating_sub.ensures;
      response =
          response_of rho plan keeps c.args.p c.requires.inside c.requires.valid c.loop-k.latest c.saturating_sub-2.result top
          (omega (arith, c.saturating_sub-2.ensures, c.from-2.ensures, c.from-3.ensures, wcet, release));
    }
