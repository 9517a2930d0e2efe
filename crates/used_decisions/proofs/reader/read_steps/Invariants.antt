use Rattle.std.proofs.Common.{take}
use Rattle.used_decisions.proofs.ReadSteps.{AreRead}
use Rattle.used_decisions.proofs.reader.read_steps.Given as goal

abbrev pub invariant-loop-step : goal.invariant-loop-step
invariant-loop-step l = AreRead l.path l.fn.uses l.fn.given l.given l.uses (take l.step-index l.steps)
