use Rattle.instance_variants.proofs.ShorterRuns.{none_with_more, own_valid, shorter_valid}
use Rattle.instance_variants.proofs.longer_laws.shorter_runs_keep_plans.Goals as goal

pub returns-clause-less : goal.returns-clause-less
returns-clause-less c = λ i plan less more fewer v. shorter_valid i plan more v less fewer

pub returns-clause-own : goal.returns-clause-own
returns-clause-own c = λ i plan more v. own_valid i plan more v

pub returns-clause-none : goal.returns-clause-none
returns-clause-none c = λ i ps scale x y le none. none_with_more i ps scale x y le none
