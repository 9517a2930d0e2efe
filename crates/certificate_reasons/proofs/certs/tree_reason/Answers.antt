-- Each node in front of the one at fault suits its choice, and the walk goes on behind it.
use Rattle.std.proofs.Common.{◌≡◌, ◌+◌, ◌<◌, ◌≤◌, arith}
use Rattle.certificate.specs.Lines.{node_lines}
use Rattle.certificate_reasons.proofs.Reached.{reached_end, reached_fault, reached_first, reached_line, reached_next, reached_on, reached_suits, reached_told, reached_walk}
use Rattle.certificate_reasons.proofs.certs.tree_reason.Goals as goal

pub loop-k-init : goal.loop-k-init
loop-k-init c =
    reached_first c.args.instance.now c.args.cert.now c.args.at c.args.fault c.in_ok-walk.walk c.nodes-nodes.ensures.tree c.in_ok-walk.ensures c.requires.first

pub go_on-requires : goal.go_on-requires
go_on-requires c =
    let inside = rw c.nodes-nodes.ensures.nodes at c.loop-k-test.true in
    let here = rw c.nodes-nodes.ensures.nodes at c.index-nodes-k.is in
    reached_next c.args.instance.now c.args.cert.now c.args.at c.args.fault c.loop-k.k c.index-nodes-k.result c.loop-k.walk c.loop-k.line inside here
    c.loop-k.invariant

pub node_reason-requires-clause-choice : goal.node_reason-requires-clause-choice
node_reason-requires-clause-choice c =
    let inside = rw c.nodes-nodes.ensures.nodes at c.loop-k-test.true in
    let here = rw c.nodes-nodes.ensures.nodes at c.index-nodes-k.is in
    let walk = reached_walk c.args.instance.now c.args.cert.now c.args.at c.args.fault c.loop-k.k c.index-nodes-k.result c.loop-k.walk c.loop-k.line inside here
    c.loop-k.invariant c.go_on.new.self c.in_ok-go_on.ensures in
    rw c.choice.ensures walk.1.choice

pub node_reason-requires-clause-fault : goal.node_reason-requires-clause-fault
node_reason-requires-clause-fault c =
    let inside = rw c.nodes-nodes.ensures.nodes at c.loop-k-test.true in
    let here = rw c.nodes-nodes.ensures.nodes at c.index-nodes-k.is in
    let few = reached_line c.args.instance.now c.args.cert.now c.args.at c.args.fault c.loop-k.k c.index-nodes-k.result c.loop-k.walk c.loop-k.line inside here
    c.loop-k.invariant in
    let own : c.args.at < c.loop-k.line + node_lines c.index-nodes-k.result = omega (arith, few, c.requires.few, c.lines.ensures, c.saturating_add-next.ensures, c.if-at-next.true) in
    let fault = reached_fault c.args.instance.now c.args.cert.now c.args.at c.args.fault c.loop-k.k c.index-nodes-k.result c.loop-k.walk c.loop-k.line inside here
    c.loop-k.invariant c.go_on.new.self c.in_ok-go_on.ensures own in
    rw (c.choice.ensures, c.low-low.ensures, c.saturating_sub.ensures) fault

pub enter-requires-clause-walk : goal.enter-requires-clause-walk
enter-requires-clause-walk c =
    let inside = rw c.nodes-nodes.ensures.nodes at c.loop-k-test.true in
    let here = rw c.nodes-nodes.ensures.nodes at c.index-nodes-k.is in
    reached_walk c.args.instance.now c.args.cert.now c.args.at c.args.fault c.loop-k.k c.index-nodes-k.result c.loop-k.walk c.loop-k.line inside here
    c.loop-k.invariant c.go_on.new.self c.in_ok-go_on.ensures

pub enter-requires-clause-suits : goal.enter-requires-clause-suits
enter-requires-clause-suits c =
    let inside = rw c.nodes-nodes.ensures.nodes at c.loop-k-test.true in
    let here = rw c.nodes-nodes.ensures.nodes at c.index-nodes-k.is in
    let few = reached_line c.args.instance.now c.args.cert.now c.args.at c.args.fault c.loop-k.k c.index-nodes-k.result c.loop-k.walk c.loop-k.line inside here
    c.loop-k.invariant in
    let past : c.loop-k.line + node_lines c.index-nodes-k.result ≤ c.args.at =
    omega (arith, few, c.requires.few, c.lines.ensures, c.saturating_add-next.ensures, c.if-at-next.false) in (
      c.args.cert.now.low,
      reached_suits c.args.instance.now c.args.cert.now c.args.at c.args.fault c.loop-k.k c.index-nodes-k.result c.loop-k.walk c.loop-k.line inside here
          c.loop-k.invariant c.go_on.new.self c.in_ok-go_on.ensures past,
    )

pub returns-then-at-next : goal.returns-then-at-next
returns-then-at-next c =
    let inside = rw c.nodes-nodes.ensures.nodes at c.loop-k-test.true in
    let here = rw c.nodes-nodes.ensures.nodes at c.index-nodes-k.is in
    let few = reached_line c.args.instance.now c.args.cert.now c.args.at c.args.fault c.loop-k.k c.index-nodes-k.result c.loop-k.walk c.loop-k.line inside here
    c.loop-k.invariant in
    let own : c.args.at < c.loop-k.line + node_lines c.index-nodes-k.result = omega (arith, few, c.requires.few, c.lines.ensures, c.saturating_add-next.ensures, c.if-at-next.true) in
    reached_told c.args.instance.now c.args.cert.now c.args.at c.args.fault c.loop-k.k c.index-nodes-k.result c.loop-k.walk c.loop-k.line inside here
    c.loop-k.invariant c.go_on.new.self c.in_ok-go_on.ensures c.in_ok-reason.reason own
    (rw (c.choice.ensures, c.low-low.ensures, c.saturating_sub.ensures) at c.in_ok-reason.ensures)

pub loop-k-preserved : goal.loop-k-preserved
loop-k-preserved c =
    let inside = rw c.nodes-nodes.ensures.nodes at c.loop-k-test.true in
    let here = rw c.nodes-nodes.ensures.nodes at c.index-nodes-k.is in
    let few = reached_line c.args.instance.now c.args.cert.now c.args.at c.args.fault c.loop-k.k c.index-nodes-k.result c.loop-k.walk c.loop-k.line inside here
    c.loop-k.invariant in
    let next : c.saturating_add-next.result ≡ c.loop-k.line + node_lines c.index-nodes-k.result =
    omega (arith, few, c.requires.few, c.lines.ensures, c.saturating_add-next.ensures) in
    rw next (reached_on c.args.instance.now c.args.cert.now c.args.at c.args.fault c.loop-k.k c.index-nodes-k.result c.loop-k.walk c.loop-k.line inside here
    c.loop-k.invariant c.go_on.new.self c.in_ok-go_on.ensures c.enter.new.walk (omega (arith, next, c.if-at-next.false)) c.in_ok-enter.ensures)

pub unreachable-requires : goal.unreachable-requires
unreachable-requires c =
    let past = rw c.nodes-nodes.ensures.nodes at c.loop-k-test.false in
    reached_end c.args.instance.now c.args.cert.now c.args.at c.args.fault c.loop-k.k c.loop-k.walk c.loop-k.line past c.loop-k.invariant
