use Rattle.plan_questions.proofs.Halves.{apart, exact}
use Rattle.plan_questions.proofs.cuts.least_below.Goals as goal

pub returns-in-Some : goal.returns-in-Some
returns-in-Some g c =
    apart (g.C.Cut.cutting c.args.cut.now) c.args.asking.now.options c.halve.new.known c.in-Some.cert c.in_ok-stopped.ensures.known
    (rw c.in-Some.is at c.in_ok-stopped.ensures.end)

pub returns-in-None : goal.returns-in-None
returns-in-None g c =
    exact (g.C.Cut.cutting c.args.cut.now) c.args.asking.now.options c.halve.new.known c.in_ok-stopped.ensures.known (rw c.in-None.is at c.in_ok-stopped.ensures.end)
