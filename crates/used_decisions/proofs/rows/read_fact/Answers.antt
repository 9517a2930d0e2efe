use Rattle.used_decisions.proofs.Tells.{more_none}
use Rattle.used_decisions.proofs.rows.read_fact.Goals as goal

pub returns-in-FirstRound : goal.returns-in-FirstRound
returns-in-FirstRound c = rw c.in-FirstRound.is (record { more = c.least.ensures.more; told = λ read there. c.least.ensures.told read there })

pub returns-in-LateRound : goal.returns-in-LateRound
returns-in-LateRound c = rw c.in-LateRound.is (record { more = c.greatest.ensures.more; told = λ read there. c.greatest.ensures.told read there })

pub returns-in-Order : goal.returns-in-Order
returns-in-Order c = rw c.in-Order.is (record { more = c.order.ensures.more; told = λ read there. c.order.ensures.told read there.0 there.1 })
