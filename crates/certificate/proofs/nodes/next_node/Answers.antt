use Rattle.std.proofs.Common.{◌≡◌, ◌+◌, ◌-◌, ◌++◌, ◌∷◌, [], ℕ, length, refl, subst, arith}
use Rattle.std.proofs.lemmas.Result.{err_from_is_err_and}
use Rattle.certificate.specs.Lines.{node_lines}
use Rattle.certificate.specs.Trees.{children}
use Rattle.certificate.specs.Reading.{end_at, text_node}
use Rattle.certificate.specs.Sources.{Says, IsFaultOn, OrMemory}
use Rattle.certificate.specs.Opened.{Gives}
use Rattle.certificate.proofs.Opened.{no_more, more_fails, node_next, node_fails, takes_child, rest_of_part}
use Rattle.certificate.proofs.Sources.{or_memory}
use Rattle.certificate.proofs.nodes.next_node.Goals as goal

pub returns-in_err-node-clause-err : goal.returns-in_err-node-clause-err
returns-in_err-node-clause-err g c =
    let p = err_from_is_err_and c.from_residual-in_err-node.result c.from_residual-in_err-node.ensures.1 in
    let line = g.L.LineSource.passed c.args.source.now + 1 in
    let left = g.L.LineSource.may_leave c.args.source.now in
    let stops = OrMemory (g.L.LineSource.may_stop c.node_of.new.source) in
    let h : IsFaultOn (OrMemory (g.L.LineSource.may_stop c.node_of.new.source)) (g.L.LineSource.may_leave c.args.source.now) (text_node c.args.version (length c.take_due.new.due.items) (g.L.LineSource.passed c.args.source.now + 1)) c.in_err-node.field-0.0 =
    rw (← c.as_slice.ensures.value) c.in_err-node.ensures.err in
    rw (p.1, p.2)
    (rest_of_part c.args.version c.in_err-node.field-0.0 stops stops left (text_node c.args.version (length c.take_due.new.due.items) line) c.args.due.now.items line (λ x h. h)
    (node_fails c.args.version left c.args.due.now.items c.take_due.new.due.items c.in-Some.count line c.in-Some.ensures.some.0 c.in-Some.ensures.some.1) h)

pub returns-clause-due : goal.returns-clause-due
returns-clause-due g c =
    let is : c.push-2.new.self.items ≡ (c.take_due.new.due.items ++ (c.in-Some.count - 1) ∷ []) ++ children c.in_ok-node.node ∷ [] = rw (c.in_ok-push-2.ensures.items, c.in_ok-push.ensures.items, c.children.ensures) refl in
    takes_child (g.L.LineSource.may_leave c.args.source.now) (g.L.LineSource.may_leave c.node_of.new.source) c.args.due.now.items c.take_due.new.due.items c.push-2.new.self.items
    c.in-Some.count (g.L.LineSource.passed c.args.source.now + 1) c.in_ok-node.node c.in-Some.ensures.some.0 c.in-Some.ensures.some.1 is

pub returns-clause-next : goal.returns-clause-next
returns-clause-next g c read gives =
    let is : c.push-2.new.self.items ≡ (c.take_due.new.due.items ++ (c.in-Some.count - 1) ∷ []) ++ children c.in_ok-node.node ∷ [] = rw (c.in_ok-push-2.ensures.items, c.in_ok-push.ensures.items, c.children.ensures) refl in
    let said : Says (g.L.LineSource.may_leave c.args.source.now) (g.L.LineSource.may_leave c.node_of.new.source) (text_node c.args.version (length c.take_due.new.due.items) (g.L.LineSource.passed c.args.source.now + 1)) c.in_ok-node.node =
    rw (← c.as_slice.ensures.value) c.in_ok-node.ensures.said in
    let moved : g.L.LineSource.passed c.node_of.new.source + 1 ≡ g.L.LineSource.passed c.args.source.now + 1 + node_lines c.in_ok-node.node = omega (arith, c.in_ok-node.ensures.passed) in
    node_next (g.L.LineSource.may_leave c.args.source.now) (g.L.LineSource.may_leave c.node_of.new.source) c.args.due.now.items c.take_due.new.due.items c.push-2.new.self.items
    c.in-Some.count (g.L.LineSource.passed c.args.source.now + 1) c.in_ok-node.node c.in-Some.ensures.some.0 c.in-Some.ensures.some.1 is c.args.version said read
    (subst (λ (n : ℕ). Gives c.args.version (g.L.LineSource.may_leave c.node_of.new.source) c.push-2.new.self.items n read) moved gives)

pub returns-in_err-end-clause-err : goal.returns-in_err-end-clause-err
returns-in_err-end-clause-err g c =
    let p = err_from_is_err_and c.from_residual.result c.from_residual.ensures.1 in
    let line = g.L.LineSource.passed c.args.source.now + 1 in
    let left = g.L.LineSource.may_leave c.args.source.now in
    let stops = g.L.LineSource.may_stop c.end.new.self in
    rw (p.1, p.2)
    (rest_of_part c.args.version c.in_err-end.field-0.0 stops (OrMemory stops) left (end_at line) c.args.due.now.items line (or_memory stops)
    (more_fails c.args.version left c.args.due.now.items line c.in_default.ensures.none) c.in_err-end.ensures.err)

pub returns-in_default-clause-next : goal.returns-in_default-clause-next
returns-in_default-clause-next g c =
    no_more c.args.version (g.L.LineSource.may_leave c.args.source.now) c.args.due.now.items (g.L.LineSource.passed c.args.source.now + 1) c.in_default.ensures.none c.in_ok-end.ensures.end
