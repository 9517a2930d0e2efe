use Rattle.question_commands.proofs.AgeAnswers.{aged_by_name}
use Rattle.question_commands.proofs.ages.aged_of.Goals as goal

pub returns-in-Ok : goal.returns-in-Ok
returns-in-Ok g c =
    aged_by_name c.args.rates.now c.in-Ok.loose c.args.name.now c.in-Some.chain c.args.beside c.args.asking.now.options c.in-Some.ensures
    c.in-Ok.ensures c.aged_loosely.result c.aged_loosely.ensures
