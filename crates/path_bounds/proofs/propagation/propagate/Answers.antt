use Rattle.std.proofs.Common.{arith, refl, ap, sym, ◌∙◌, Ok, IsFalse}
use Rattle.std.proofs.lemmas.Result.{err_from_is_err_and}
use Rattle.step_logs.specs.Facts.{Facts}
use Rattle.path_bounds.specs.declared.reached.Reached.TheVariants.{Closed, At}
use Rattle.step_logs.specs.Journal.{Journal}
use Rattle.path_bounds.proofs.Appended.{appended_of, about_of}
use Rattle.path_bounds.proofs.propagation.propagate.Goals as goal

pub reach-done-requires-clause-begins : goal.reach-done-requires-clause-begins
reach-done-requires-clause-begins c =
    let first = ap (λ (log : Journal). log.facts) c.new-journal.ensures ∙ c.in_ok-first.ensures in
    rw first refl

pub returns-in_err-done-clause-appended : goal.returns-in_err-done-clause-appended
returns-in_err-done-clause-appended c =
    let failed = err_from_is_err_and c.from_residual-in_err-done.result c.from_residual-in_err-done.ensures.1 in
    appended_of c.args.instance.now c.args.choice.now c.processes-processes.ensures.instance c.requires c.args.goal c.args.steps.now.items
    c.into_parts-facts.result.1.items c.new-journal.result c.reach-done.new.journal c.into_parts-facts.result.0
    c.from_residual-in_err-done.result (c.new-journal.ensures ∙ rw (c.in_ok-first.ensures, c.replace-before.ensures.value) refl)
    c.reach-done.ensures.advances c.into_parts-facts.ensures.facts c.into_parts-facts.ensures.steps (rw failed.1 tt)

pub returns-then-closed-clause-appended : goal.returns-then-closed-clause-appended
returns-then-closed-clause-appended c =
    appended_of c.args.instance.now c.args.choice.now c.processes-processes.ensures.instance c.requires c.args.goal c.args.steps.now.items
    c.into_parts-facts.result.1.items c.new-journal.result c.reach-done.new.journal c.into_parts-facts.result.0 (Ok Closed)
    (c.new-journal.ensures ∙ rw (c.in_ok-first.ensures, c.replace-before.ensures.value) refl)
    c.reach-done.ensures.advances c.into_parts-facts.ensures.facts c.into_parts-facts.ensures.steps (sym c.closed.ensures.value ∙ c.if-closed.true)

pub returns-clause-appended : goal.returns-clause-appended
returns-clause-appended c =
    appended_of c.args.instance.now c.args.choice.now c.processes-processes.ensures.instance c.requires c.args.goal c.args.steps.now.items
    c.into_parts-facts.result.1.items c.new-journal.result c.reach-done.new.journal c.into_parts-facts.result.0
    (Ok (At c.into_parts-facts.result.0)) (c.new-journal.ensures ∙ rw (c.in_ok-first.ensures, c.replace-before.ensures.value) refl)
    c.reach-done.ensures.advances c.into_parts-facts.ensures.facts c.into_parts-facts.ensures.steps (
      sym c.closed.ensures.value ∙ c.if-closed.false,
      about_of c.args.instance.now c.args.choice.now c.processes-processes.ensures.instance
          c.requires c.args.goal c.args.steps.now.items c.new-journal.result c.reach-done.new.journal c.into_parts-facts.result.0
          (c.new-journal.ensures ∙ rw (c.in_ok-first.ensures, c.replace-before.ensures.value) refl)
          c.reach-done.ensures.advances c.into_parts-facts.ensures.facts,
    )

pub returns-clause-bound : goal.returns-clause-bound
returns-clause-bound c = λ bound is le.
    let left : IsFalse c.reach-done.new.journal.facts.known.closed = ap (λ (s : Facts). s.known.closed) (sym c.into_parts-facts.ensures.facts)
    ∙ sym c.closed.ensures.value ∙ c.if-closed.false in
    let at = ap (λ (s : Facts). s.goal) (ap (λ (log : Journal). log.facts) c.new-journal.ensures ∙ c.in_ok-first.ensures) in
    absurd (omega (arith, c.in_ok-done.ensures.above left bound is, at, le))

pub returns-clause-complete : goal.returns-clause-complete
returns-clause-complete c = λ done.
    let left : IsFalse c.reach-done.new.journal.facts.known.closed = ap (λ (s : Facts). s.known.closed) (sym c.into_parts-facts.ensures.facts)
    ∙ sym c.closed.ensures.value ∙ c.if-closed.false in
    let at = ap (λ (s : Facts). s.goal) (ap (λ (log : Journal). log.facts) c.new-journal.ensures ∙ c.in_ok-first.ensures) in
    rw at at (c.in_ok-done.ensures.found done left)
