use Rattle.question_commands.proofs.AgeAnswers.{aged_of_bytes, unread_bytes}
use Rattle.question_commands.proofs.ages.aged_of_reader.Goals as goal

pub returns-in-Ok-clause-judged : goal.returns-in-Ok-clause-judged
returns-in-Ok-clause-judged g c =
    aged_of_bytes _ c.args.name.now c.args.beside c.args.asking.now.options c.in-Ok.rates c.aged_of.result c.in-Ok.ensures.judged c.aged_of.ensures

pub returns-in-Err-clause-judged : goal.returns-in-Err-clause-judged
returns-in-Err-clause-judged g c = unread_bytes _ c.args.name.now c.in-Err.fault c.in-Err.ensures.judged c.in-Err.ensures.alone
