use Rattle.certificate.proofs.WholeText.{spelled_once}
use Rattle.certificate.proofs.laws.spelling_is_of_one_certificate.Goals as goal

pub returns : goal.returns
returns c = spelled_once
