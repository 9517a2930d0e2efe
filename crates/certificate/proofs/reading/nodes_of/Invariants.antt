use Rattle.std.proofs.Common.{◌+◌, ◌-◌, ◌^◌, [], ◌∷◌}
use Rattle.certificate.proofs.Opened.{IsGivenSoFar}
use Rattle.certificate.proofs.reading.nodes_of.Given as goal

abbrev pub invariant-nodes : goal.invariant-nodes
invariant-nodes g l =
    let source = g.L.LineSource in
    IsGivenSoFar l.version (source.may_leave l.fn.source) l.version (source.may_leave l.source) (1 ∷ []) l.due.items (source.passed l.fn.source + 1) (source.passed l.source + 1) l.nodes.items

abbrev pub decreases-nodes : goal.decreases-nodes
decreases-nodes g l = 2 ^ 64 - g.L.LineSource.passed l.source
