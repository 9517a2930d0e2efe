use Rattle.std.proofs.Common.{arith}
use Rattle.ttp_model.specs.declared.error.Place.TheVariants.{AtLink}
use Rattle.ttp_model.specs.Rules.{Indices, Ranges}
use Rattle.ttp_model.proofs.rules.judge_relations.Goals as goal

pub late_process-requires-clause-ranges : goal.late_process-requires-clause-ranges
late_process-requires-clause-ranges c = c.requires.each Ranges (omega arith)

pub link_across-requires-clause-indices : goal.link_across-requires-clause-indices
link_across-requires-clause-indices c = λ l. c.requires.each Indices (omega arith) (AtLink l)
