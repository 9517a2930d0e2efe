use Rattle.cert_check.proofs.stream.judge_all.Goals as goal

pub returns-in_err-read_on-in_default-clause-from :
    goal.returns-in_err-read_on-in_default-clause-from
returns-in_err-read_on-in_default-clause-from g c = λ origin is. c.in_err-read_on-in_default.ensures.from origin (c.judge.ensures.from origin is)

pub returns-in_ok-read_on-in_default-clause-from :
    goal.returns-in_ok-read_on-in_default-clause-from
returns-in_ok-read_on-in_default-clause-from g c = λ origin is. c.in_ok-read_on-in_default.ensures.from origin (c.judge.ensures.from origin is)
