use Rattle.step_logs.proofs.Complete.{found_of}
use Rattle.step_logs.proofs.Logs.{advances_trans}
use Rattle.step_logs.proofs.standstill.complete.Goals as goal

pub returns-clause-found : goal.returns-clause-found
returns-clause-found c = λ ticks start begins leads done. found_of c.args.instance.now c.args.choice.now ticks start c.settle.new.self c.in_ok-steps.steps.items begins.facts (advances_trans _ _ _ leads c.settle.ensures.advances) (rw c.facts-known.ensures at c.instance-same.ensures.inference) (c.in_ok-steps.ensures.complete done) (rw c.as_slice.ensures.value at c.in_ok-settle.ensures.idle) done
