use Rattle.cert_check.proofs.batches.Batches.end.Goals as goal

pub returns-clause-answers : goal.returns-clause-answers
returns-clause-answers g c = λ i low first hs stands closed. c.end.ensures.answers i low first c.args.self.now.walk hs stands closed
