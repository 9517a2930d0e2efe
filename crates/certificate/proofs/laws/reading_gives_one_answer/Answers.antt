use Rattle.certificate.proofs.WholeText.{one_answer}
use Rattle.certificate.proofs.laws.reading_gives_one_answer.Goals as goal

pub returns : goal.returns
returns c = one_answer
