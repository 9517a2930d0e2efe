use Rattle.rates_model.specs.Cycles.{cycle, jobs_of}
use Rattle.rates_model.specs.Rates.{period_of}
use Rattle.rates_model.proofs.Periods.{jobs_whole, period_some}
use Rattle.rates_model.proofs.LaterJobs.{begun_later}
use Rattle.rates_model.proofs.laws.reads_are_of_all_cycles.Goals as goal

pub returns : goal.returns
returns c = λ p q cy j at_p at_q.
    let rho = c.args.rates.now in
    let keeps = c.processes-processes.ensures.keeps in
    begun_later cy j (jobs_of rho p) (jobs_of rho q) (period_of rho p) (period_of rho q) (cycle rho)
    (period_some rho keeps p at_p) (jobs_whole rho keeps p at_p) (jobs_whole rho keeps q at_q)
