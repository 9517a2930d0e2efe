-- Each chain has an age, and no other.
use Rattle.std.proofs.Common.{◌≡◌, ℕ, ◌<◌, length, arith}
use Rattle.ttp_model.specs.declared.plan.Plan.{Plan}
use Rattle.rates_model.specs.declared.error.RatesPlace.TheVariants.{AtChain}
use Rattle.rates_model.specs.Rates.{Rates, chain_at}
use Rattle.rates_model.specs.Cycles.{jobs_of}
use Rattle.rates_model.specs.Ages.{last_of}
use Rattle.rates_model.specs.Rules.{IsRates}
use Rattle.endless_schedules.specs.Ages.{IsAge}
use Rattle.endless_schedules.proofs.ForEver.{age_of_top, late_age}
use Rattle.endless_schedules.proofs.Tops.{some_top}

pub some_age : (rho : Rates) (plan : Plan) (x : ℕ) → IsRates rho → x < length rho.chains → (age : ℕ) × IsAge rho plan (chain_at rho x) age
some_age rho plan x w inside =
    let chain = chain_at rho x in
    let least = (w.throughs x inside).least in
    let some : 0 < length chain.through = omega (arith, least) in
    let there = w.indices (AtChain x) inside in
    let top = some_top (late_age rho plan chain) (jobs_of rho (last_of chain)) in
    (top.0, age_of_top rho plan w chain some there top.0 top.1)

pub one_age : (rho : Rates) (plan : Plan) (x one other : ℕ) → IsAge rho plan (chain_at rho x) one → IsAge rho plan (chain_at rho x) other → one ≡ other
one_age rho plan x one other first second = omega (arith, first.greatest other second.one, second.greatest one first.one)
