use Rattle.command_streams.proofs.StatedOnce.{stated_once, text_memory}
use Rattle.command_streams.proofs.input.instance_of_text.Goals as goal

pub returns-in-Ok-clause-only : goal.returns-in-Ok-clause-only
returns-in-Ok-clause-only c = λ i has. stated_once c.args.bytes.now c.in-Ok.instance i c.in-Ok.ensures.ok has.states

pub returns-in-Err-clause-only : goal.returns-in-Err-clause-only
returns-in-Err-clause-only c = λ i has. text_memory c.in-Err.error (c.in-Err.ensures.only i has.states has.instance)
