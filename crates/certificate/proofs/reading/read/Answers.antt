use Rattle.std.proofs.Common.{Ok, Err}
use Rattle.certificate.proofs.StreamLaws.{told_fault}
use Rattle.certificate.proofs.WholeText.{found_by, only_by}
use Rattle.certificate.proofs.reading.read.Goals as goal

pub returns-in-Ok-clause-found : goal.returns-in-Ok-clause-found
returns-in-Ok-clause-found c = found_by c.args.text.now (Ok c.in-Ok.cert) c.in-Ok.ensures.cert

pub returns-in-Ok-clause-only : goal.returns-in-Ok-clause-only
returns-in-Ok-clause-only c = only_by c.args.text.now (Ok c.in-Ok.cert) c.in-Ok.ensures.cert

pub returns-in-Err-Text-clause-only : goal.returns-in-Err-Text-clause-only
returns-in-Err-Text-clause-only c =
    only_by c.args.text.now (Err c.in-Err-Text.fault) (told_fault c.args.text.now c.in-Err-Text.fault (rw c.in-Err-Text.field-0-is at c.in-Err-Text.ensures.fault))
