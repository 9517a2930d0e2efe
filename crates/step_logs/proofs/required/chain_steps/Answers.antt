use Rattle.step_logs.proofs.Lists.{receiver_steps_kept}
use Rattle.step_logs.proofs.required.chain_steps.Goals as goal

pub returns : goal.returns
returns c = record {
  processes = c.in_ok-add_process_steps.ensures.added;
  links = λ l h. c.in_ok-add_process_steps.ensures.kept _ (c.in_ok-add_message_steps.ensures.kept _ (c.in_ok-add_link_steps.ensures.added l h));
  messages = λ m q h. receiver_steps_kept _ _ m q c.in_ok-add_process_steps.ensures.kept (c.in_ok-add_message_steps.ensures.added m q h);
}
