use Rattle.std.proofs.Common.{IsFalse, arith, inl, inr, ap, sym, ◌∙◌}
use Rattle.std.proofs.lemmas.Bool.{cases_Bool}
use Rattle.tt_infer.specs.Facts.{Facts}
use Rattle.step_logs.proofs.propagator.Propagator.closed.Goals as goal

pub returns-clause-bound : goal.returns-clause-bound
returns-clause-bound c = rw (← c.self.view_is) (λ bound is le. elim (cases_Bool c.closed.result) [
  | inl holds ↦ holds
  | inr fails ↦
      let left : IsFalse c.self.inside.current.facts.known.closed = sym (c.closed.ensures.value ∙ ap (λ (s : Facts). s.known.closed) c.facts.ensures) ∙ fails in
      absurd (omega (arith, c.self.invariant.current.above left bound is, le))
])
