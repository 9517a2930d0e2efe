use Rattle.command_streams.specs.Outcomes.{OnDone}
use Rattle.plan_commands.specs.Drawings.{IsPictureText}
use Rattle.plan_commands.specs.Printed.{IsPrinted}
use Rattle.plan_commands.specs.Verdicts.{IsTold}
use Rattle.plan_commands.proofs.Drawn.{drawn_of_readers, undrawn}
use Rattle.plan_commands.proofs.Tellings.{never_of_instance}
use Rattle.plan_commands.proofs.picture.draw_run.Goals as goal

pub returns-in-Ok-clause-answer : goal.returns-in-Ok-clause-answer
returns-in-Ok-clause-answer g c =
    drawn_of_readers c.args.width c.args.shown _ _ c.in-Ok.verified _ _ _ c.in-Ok.ensures.judged c.write_picture-end.ensures.answer

pub returns-in-Ok-clause-order : goal.returns-in-Ok-clause-order
returns-in-Ok-clause-order g c = never_of_instance _ _ c.write_picture-end.ensures.later

pub returns-in-Err-clause-answer : goal.returns-in-Err-clause-answer
returns-in-Err-clause-answer g c =
    undrawn c.args.shown (λ instance plan. OnDone (IsTold (IsPrinted instance plan) (IsPictureText c.args.width c.args.shown)))
    _ _ _ c.in-Err.fault c.in-Err.ensures.judged
