use Rattle.std.proofs.Common.{arith}
use Rattle.plan_sheets.proofs.pictures.laws.deadlines_are_behind_ends.Goals as goal

pub returns : goal.returns
returns c = λ i plan p w inside. omega (arith, (w.in_time p inside).0)
