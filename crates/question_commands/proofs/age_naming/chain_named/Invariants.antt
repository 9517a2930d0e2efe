use Rattle.std.proofs.Common.{◌≢◌}
use Rattle.ttp_model.specs.Lists.{EachBelow}
use Rattle.rates_model.specs.Rates.{chain_at}
use Rattle.question_commands.proofs.age_naming.chain_named.Given as goal

abbrev pub invariant-loop-x : goal.invariant-loop-x
invariant-loop-x l = EachBelow l.x (λ x. (chain_at l.rates x).name ≢ l.name)
