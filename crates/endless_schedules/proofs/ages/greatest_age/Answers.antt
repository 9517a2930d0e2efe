use Rattle.std.proofs.Common.{◌≡◌, ◌∙◌, ◌-◌, ◌*◌, ℕ, List, ◌+◌, length, slice_index, arith, ap, subst}
use Rattle.ttp_model.specs.Totals.{total}
use Rattle.rates_model.specs.declared.parts.RatesProcess.{RatesProcess}
use Rattle.rates_model.specs.Rates.{process_at}
use Rattle.rates_model.specs.Cycles.{jobs_of}
use Rattle.rates_model.specs.Ages.{last_of}
use Rattle.endless_schedules.proofs.ForEver.{age_of_top, late_age}
use Rattle.endless_schedules.proofs.Reading.{age_read, start_inside}
use Rattle.endless_schedules.proofs.Tops.{IsTop, top_more}
use Rattle.endless_schedules.proofs.ages.greatest_age.Goals as goal

pub bounds-starts-first : goal.bounds-starts-first
bounds-starts-first c =
    let rho = c.args.rates.now in
    let chain = c.args.chain.now in
    let first = c.first_job-first.ensures.value ∙ ap (λ (xs : List ℕ). total (jobs_of rho) (slice_index xs (length xs - 1))) c.as_slice-through.ensures in
    let jobs = c.jobs_of-k-end.ensures.value ∙ ap (λ (xs : List ℕ). jobs_of rho (slice_index xs (length xs - 1))) c.as_slice-through.ensures in
    let last = c.requires.inside (length chain.through - 1) 0 (omega (arith, c.requires.least)) in
    let inside = start_inside rho c.args.plan.now (last_of chain) c.loop-k.k c.first_job-first.result first c.requires.valid last (omega (arith, c.loop-k-test.true, jobs)) in
    omega (arith, inside, ap length c.as_slice-starts.ensures)

pub loop-k-preserved : goal.loop-k-preserved
loop-k-preserved c =
    let rho = c.args.rates.now in
    let plan = c.args.plan.now in
    let chain = c.args.chain.now in
    let k = c.loop-k.k in
    let first = c.first_job-first.ensures.value ∙ ap (λ (xs : List ℕ). total (jobs_of rho) (slice_index xs (length xs - 1))) c.as_slice-through.ensures in
    let at = c.from-in-loop-k.ensures ∙ ap (λ (xs : List ℕ). slice_index xs (c.first_job-first.result + k)) c.as_slice-starts.ensures in
    let takes =
    c.from-wcet.ensures
    ∙ (ap (λ (process : RatesProcess). process.wcet) c.process_at.ensures.value
    ∙ ap (λ (xs : List ℕ). (process_at rho (slice_index xs (length xs - 1))).wcet) c.as_slice-through.ensures) in
    let far =
    ap (λ (xs : List ℕ). 2 * length xs * c.from.result) c.as_slice-through.ensures
    ∙ ap (λ (ticks : ℕ). 2 * length chain.through * ticks) (c.from.ensures ∙ c.cycle.ensures.value) in
    let read : c.saturating_sub-age.result ≡ late_age rho plan chain k =
    age_read rho plan chain k c.first_job-first.result first c.from-in-loop-k.result c.from-wcet.result (2 * length c.as_slice-through.result.now * c.from.result)
    c.carried_release.result c.saturating_sub-age.result at takes far c.carried_release.ensures.value c.saturating_sub-age.ensures in
    top_more (late_age rho plan chain) k c.loop-k.greatest c.saturating_sub-age.result c.max-greatest.result read c.loop-k.invariant c.max-greatest.ensures

pub returns : goal.returns
returns c =
    let rho = c.args.rates.now in
    let plan = c.args.plan.now in
    let chain = c.args.chain.now in
    let jobs = c.jobs_of-k-end.ensures.value ∙ ap (λ (xs : List ℕ). jobs_of rho (slice_index xs (length xs - 1))) c.as_slice-through.ensures in
    let done : c.loop-k.k ≡ jobs_of rho (last_of chain) = omega (arith, c.loop-k-test.false, c.loop-k.auto.k-end, jobs) in
    let top = subst (λ (n : ℕ). IsTop (late_age rho plan chain) n c.loop-k.greatest) done c.loop-k.invariant in
    age_of_top rho plan c.cycle.ensures.keeps chain (omega (arith, c.requires.least)) c.requires.inside c.loop-k.greatest top
