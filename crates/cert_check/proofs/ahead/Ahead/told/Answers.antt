use Rattle.certificate.specs.Streams.{bytes_taken}
use Rattle.cert_check.proofs.Failing.{all_told}
use Rattle.cert_check.proofs.ahead.Ahead.told.Goals as goal

pub returns-clause-answers : goal.returns-clause-answers
returns-clause-answers g c = λ i low first w hs stands told.
    let rest = c.pass-rest.ensures.rest i stands.at w stands.left stands.is_ahead in
    rw c.first_of.ensures
    (all_told i low g.R.Read.remaining first stands.at stands.left hs stands.under_way (bytes_taken c.pass-rest.new.stream)
    c.args.self c.args.fault c.pass-rest.result told rest)
