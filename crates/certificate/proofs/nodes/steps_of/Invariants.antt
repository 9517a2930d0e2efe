use Rattle.certificate.proofs.Sources.{IsSteppedSoFar}
use Rattle.certificate.proofs.nodes.steps_of.Given as goal

abbrev pub invariant-loop-k : goal.invariant-loop-k
invariant-loop-k g l =
    let source = g.L.LineSource in
    IsSteppedSoFar l.version (source.may_leave l.fn.source) (source.may_leave l.source) (source.may_be_from l.fn.source) (source.may_be_from l.source)
    l.count (source.passed l.fn.source) (source.passed l.source) l.k l.steps.items
