use Rattle.std.proofs.Common.{◌≡◌, length, arith}
use Rattle.endless_schedules.proofs.Found.{job_read, job_small, made_length}
use Rattle.endless_schedules.proofs.places.Places.of_job.Goals as goal

pub index-requires : goal.index-requires
index-requires c =
    let count : length c.args.self.now.first_jobs.items ≡ length c.args.rates.now.processes = made_length _ _ _ c.requires.places.jobs in
    omega (arith, count, c.args.self.now.first_jobs.ok.0, c.requires.inside)

pub overflow_add-result : goal.overflow_add-result
overflow_add-result c =
    omega (arith, job_small c.args.rates.now c.args.self.now c.requires.places c.args.p c.args.k c.index.result.now c.requires.inside c.requires.there c.index.ensures)

pub returns-clause-index : goal.returns-clause-index
returns-clause-index c = job_read c.args.rates.now c.args.self.now c.requires.places c.args.p c.args.k c.index.result.now c.requires.inside c.requires.there c.index.ensures

pub returns-clause-few : goal.returns-clause-few
returns-clause-few c = job_small c.args.rates.now c.args.self.now c.requires.places c.args.p c.args.k c.index.result.now c.requires.inside c.requires.there c.index.ensures
