use Rattle.std.proofs.Common.{◌+◌, [], ◌∷◌}
use Rattle.std.proofs.lemmas.Result.{err_from_is_err_and}
use Rattle.certificate.specs.Sources.{OrMemory}
use Rattle.certificate.proofs.Opened.{given_more, given_all, given_fault}
use Rattle.certificate.proofs.reading.nodes_of.Goals as goal

pub returns-in_err-node-clause-err : goal.returns-in_err-node-clause-err
returns-in_err-node-clause-err g c =
    let p = err_from_is_err_and c.from_residual-in_err-node.result c.from_residual-in_err-node.ensures.1 in
    let source = g.L.LineSource in
    rw (p.1, p.2)
    (given_fault c.in_err-node.field-0.0 (OrMemory (source.may_stop c.next_node.new.source)) c.args.version (source.may_leave c.args.source.now) c.args.version (source.may_leave c.nodes.source) (1 ∷ []) c.nodes.due.items
    (source.passed c.args.source.now + 1) (source.passed c.nodes.source + 1) c.nodes.nodes.items c.nodes.invariant c.in_err-node.ensures.err)

pub nodes-preserved : goal.nodes-preserved
nodes-preserved g c =
    let source = g.L.LineSource in
    rw c.in_ok-push-in-Some.ensures.items
    (given_more c.args.version (source.may_leave c.args.source.now) c.args.version (source.may_leave c.nodes.source) c.args.version (source.may_leave c.next_node.new.source) (1 ∷ []) c.nodes.due.items c.next_node.new.due.items
    (source.passed c.args.source.now + 1) (source.passed c.nodes.source + 1) (source.passed c.next_node.new.source + 1) c.nodes.nodes.items c.in-Some.node c.nodes.invariant
    (rw c.in-Some.is at c.in_ok-node.ensures.next))

pub returns-in-None-clause-nodes : goal.returns-in-None-clause-nodes
returns-in-None-clause-nodes g c =
    let source = g.L.LineSource in
    given_all c.args.version (source.may_leave c.args.source.now) c.args.version (source.may_leave c.nodes.source) (1 ∷ []) c.nodes.due.items (source.passed c.args.source.now + 1) (source.passed c.nodes.source + 1)
    c.nodes.nodes.items c.nodes.invariant (rw c.in-None.is at c.in_ok-node.ensures.next)
