use Rattle.question_commands.proofs.AgeAnswers.{job_there, plan_valid, printable}
use Rattle.question_commands.proofs.ages.aged_by.Goals as goal

pub texts_of-requires-clause-printable : goal.texts_of-requires-clause-printable
texts_of-requires-clause-printable g c =
    printable c.args.aging.now.rates.now c.args.aging.now.chain c.args.asking.now.options c.in-Ok.least c.in-Ok.ensures

pub texts_of-requires-clause-job : goal.texts_of-requires-clause-job
texts_of-requires-clause-job g c =
    job_there c.args.aging.now.rates.now c.args.aging.now.chain c.args.asking.now.options c.args.aging.now.base.now c.requires.base c.in-Ok.least
    c.in-Ok.ensures

pub texts_of-requires-clause-valid : goal.texts_of-requires-clause-valid
texts_of-requires-clause-valid g c =
    plan_valid c.args.aging.now.rates.now c.args.aging.now.chain c.args.asking.now.options c.args.aging.now.base.now c.requires.base c.in-Ok.least
    c.in-Ok.ensures
