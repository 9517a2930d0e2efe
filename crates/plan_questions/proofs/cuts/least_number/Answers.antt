use Rattle.std.proofs.Common.{refl}
use Rattle.plan_questions.proofs.Halves.{known_first}
use Rattle.plan_questions.proofs.cuts.least_number.Goals as goal

pub any_at-requires-clause-rules : goal.any_at-requires-clause-rules
any_at-requires-clause-rules g c = λ κs alive. rw c.most-most.ensures c.requires.cutting.most_rules

pub least_below-requires-clause-known : goal.least_below-requires-clause-known
least_below-requires-clause-known g c = λ κs alive.
    known_first (g.C.Cut.cutting c.args.cut.now) c.args.asking.now.options c.requires.cutting c.in-Found.plan _ _ (rw c.in-Found.is at c.in_ok-plan.ensures).0
    c.least-low.ensures refl c.measured-high.ensures refl
