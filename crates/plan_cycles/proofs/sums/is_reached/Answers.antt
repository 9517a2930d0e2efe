use Rattle.std.proofs.Common.{◌∙◌, below_more, arith, refl, sym}
use Rattle.std.proofs.lemmas.Bool.{false≢true}
use Rattle.plan_cycles.proofs.sums.is_reached.Goals as goal

pub loop-capacity-preserved : goal.loop-capacity-preserved
loop-capacity-preserved c = below_more _ _ c.loop-capacity.invariant (λ by. false≢true (sym c.if-is_reached_by.false ∙ c.is_reached_by.ensures.1 by))

pub returns-then-is_reached_by : goal.returns-then-is_reached_by
returns-then-is_reached_by c =
    (λ _. (c.loop-capacity.capacity-index, c.loop-capacity-test.true, c.is_reached_by.ensures.0 c.if-is_reached_by.true), λ _. refl)

pub returns : goal.returns
returns c =
    (λ is. absurd (false≢true is), λ by. absurd (c.loop-capacity.invariant by.0 (omega (arith, by.1, c.loop-capacity-test.false)) by.2))
