use Rattle.step_logs.proofs.Lists.{chain_steps_kept}
use Rattle.step_logs.proofs.required.complete_steps.Goals as goal

pub returns : goal.returns
returns c = record {
  chain = chain_steps_kept _ _ _ c.in_ok-add_rounds.ensures.kept (chain_steps_kept _ _ _ c.in_ok-add_orders.ensures.kept c.requires.chain);
  orders = λ p q holds. c.in_ok-add_rounds.ensures.kept _ (c.in_ok-add_orders.ensures.added p q holds);
  rounds = c.in_ok-add_rounds.ensures.added;
}
