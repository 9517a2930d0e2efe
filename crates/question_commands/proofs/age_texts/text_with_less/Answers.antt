use Rattle.question_commands.proofs.AgeAnswers.{with_less}
use Rattle.question_commands.proofs.age_texts.text_with_less.Goals as goal

pub returns : goal.returns
returns c = with_less c.args.wanted _ _ c.args.age _ c.instance_text.result c.if-not-wanted.false c.in_ok-less.ensures c.instance_text.ensures
