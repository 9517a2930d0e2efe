use Rattle.rates_text.proofs.text.processes_on.Goals as goal

pub returns-clause-ok : goal.returns-clause-ok
returns-clause-ok c = rw c.in_ok-names.ensures.ok at c.processes-processes.ensures.ok

pub returns-clause-err : goal.returns-clause-err
returns-clause-err c = rw c.in_ok-names.ensures.ok at c.processes-processes.ensures.err
