use Rattle.std.proofs.Common.{arith}
use Rattle.ttp_model.specs.declared.error.Place.TheVariants.{AtMessage}
use Rattle.ttp_model.specs.Rules.{Indices}
use Rattle.ttp_model.proofs.rules.judge_cluster.Goals as goal

pub receiver_on_sender-requires-clause-indices : goal.receiver_on_sender-requires-clause-indices
receiver_on_sender-requires-clause-indices c = λ m. c.requires.each Indices (omega arith) (AtMessage m)
