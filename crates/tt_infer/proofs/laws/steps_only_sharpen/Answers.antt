use Rattle.tt_infer.proofs.Sharper.{IsSharper-step}
use Rattle.tt_infer.proofs.laws.steps_only_sharpen.Goals as goal

pub returns : goal.returns
returns c = record {
  starts = λ i ch aim f step g w fits lawful. (IsSharper-step i ch aim f step g w fits lawful).es;
  ends = λ i ch aim f step g w fits lawful. (IsSharper-step i ch aim f step g w fits lawful).le;
  from = λ i ch aim f step g w fits lawful. (IsSharper-step i ch aim f step g w fits lawful).lo;
  before = λ i ch aim f step g w fits lawful. (IsSharper-step i ch aim f step g w fits lawful).top;
  orders = λ i ch aim f step g w fits lawful. (IsSharper-step i ch aim f step g w fits lawful).bef;
  closed = λ i ch aim f step g w fits lawful. (IsSharper-step i ch aim f step g w fits lawful).closed;
}
