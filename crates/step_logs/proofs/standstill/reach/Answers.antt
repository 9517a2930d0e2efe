use Rattle.step_logs.proofs.Idle.{above_of}
use Rattle.step_logs.proofs.Complete.{found_of}
use Rattle.step_logs.proofs.Logs.{advances_trans}
use Rattle.step_logs.proofs.standstill.reach.Goals as goal

pub returns-clause-above : goal.returns-clause-above
returns-clause-above c = above_of c.args.instance.now c.args.choice.now c.args.journal.now.facts.goal c.args.journal.now c.settle.new.self c.in_ok-steps.steps.items c.requires.begins (advances_trans _ _ _ c.accelerate.ensures c.settle.ensures.advances) (rw c.facts-known.ensures at c.instance-same.ensures.inference) c.in_ok-steps.ensures.chain (rw c.as_slice.ensures.value at c.in_ok-settle.ensures.idle)

pub returns-clause-found : goal.returns-clause-found
returns-clause-found c = λ done. found_of c.args.instance.now c.args.choice.now c.args.journal.now.facts.goal c.args.journal.now c.settle.new.self c.in_ok-steps.steps.items c.requires.begins (advances_trans _ _ _ c.accelerate.ensures c.settle.ensures.advances) (rw c.facts-known.ensures at c.instance-same.ensures.inference) (c.in_ok-steps.ensures.complete done) (rw c.as_slice.ensures.value at c.in_ok-settle.ensures.idle) done

pub returns-in_err-accelerate-clause-advances : goal.returns-in_err-accelerate-clause-advances
returns-in_err-accelerate-clause-advances c = c.accelerate.ensures

pub returns-then-closed-clause-advances : goal.returns-then-closed-clause-advances
returns-then-closed-clause-advances c = c.accelerate.ensures

pub returns-in_err-steps-clause-advances : goal.returns-in_err-steps-clause-advances
returns-in_err-steps-clause-advances c = c.accelerate.ensures

pub returns-in_err-settle-clause-advances : goal.returns-in_err-settle-clause-advances
returns-in_err-settle-clause-advances c = advances_trans _ _ _ c.accelerate.ensures c.settle.ensures.advances

pub returns-clause-advances : goal.returns-clause-advances
returns-clause-advances c = advances_trans _ _ _ c.accelerate.ensures c.settle.ensures.advances
