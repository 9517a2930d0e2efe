use Rattle.std.proofs.Common.{◌+◌, ◌∷◌, [], arith}
use Rattle.std.proofs.lemmas.List.{length-append}
use Rattle.std.proofs.lemmas.Result.{err_from_is_err_and}
use Rattle.certificate.specs.Reading.{text_step, steps_at}
use Rattle.certificate.specs.Sources.{OrMemory}
use Rattle.certificate.proofs.Sources.{of_part, steps_go_on, step_fails_steps, steps_end}
use Rattle.certificate.proofs.nodes.steps_of.Goals as goal

pub returns-in_err-step-clause-err : goal.returns-in_err-step-clause-err
returns-in_err-step-clause-err g c =
    let p = err_from_is_err_and c.from_residual.result c.from_residual.ensures.1 in
    let source = g.L.LineSource in
    let stops = OrMemory (source.may_stop c.step_of.new.source) in
    rw (p.1, p.2)
    (of_part c.in_err-step.field-0.0 stops stops (source.may_leave c.loop-k.source) (source.may_leave c.args.source.now) (text_step c.args.version (source.passed c.loop-k.source + 1))
    (steps_at c.args.version c.args.count (source.passed c.args.source.now + 1)) (λ x h. h)
    (step_fails_steps c.args.version (source.may_leave c.args.source.now) (source.may_leave c.loop-k.source) c.args.count (source.passed c.args.source.now) (source.passed c.loop-k.source)
    c.loop-k.k c.loop-k.steps.items c.loop-k-test.true c.loop-k.invariant.here c.loop-k.invariant.said) c.in_err-step.ensures.err)

pub loop-k-preserved : goal.loop-k-preserved
loop-k-preserved g c =
    let source = g.L.LineSource in
    rw c.in_ok-push.ensures.items (record {
      said =
          steps_go_on c.args.version (source.may_leave c.args.source.now) (source.may_leave c.loop-k.source) (source.may_leave c.step_of.new.source) c.args.count (source.passed c.args.source.now)
          (source.passed c.loop-k.source) c.loop-k.k c.loop-k.steps.items c.in_ok-step.step c.loop-k-test.true c.loop-k.invariant.here c.loop-k.invariant.said c.in_ok-step.ensures.said;
      all = omega (arith, length-append c.loop-k.steps.items (c.in_ok-step.step ∷ []), c.loop-k.invariant.all);
      here = omega (arith, c.in_ok-step.ensures.passed, c.loop-k.invariant.here);
      from = λ all h. c.step_of.ensures.from all (c.loop-k.invariant.from all h);
    })

pub returns-clause-said : goal.returns-clause-said
returns-clause-said g c =
    let source = g.L.LineSource in
    steps_end c.args.version (source.may_leave c.args.source.now) (source.may_leave c.loop-k.source) c.args.count (source.passed c.args.source.now) c.loop-k.k c.loop-k.steps.items
    c.loop-k-test.false c.loop-k.invariant.said
