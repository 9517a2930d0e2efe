use Rattle.certificate.specs.Trees.{trees_of}
use Rattle.side_by_side.proofs.Shallow.{joined_is_tree}
use Rattle.side_by_side.proofs.Made.{made_joined}
use Rattle.side_by_side.proofs.joined.joined_nodes.Goals as goal

pub returns-clause-tree : goal.returns-clause-tree
returns-clause-tree c =
    let i = c.args.instance.now in
    let certs = c.args.certs.now in
    let j = c.places.new.self in
    let whole = made_joined i certs c.in_ok-joining.joining j c.in_ok-joining.ensures.instance c.in_ok-joining.ensures.certs c.in_ok-places.ensures.step
    c.in_ok-places.ensures.joining c.in_ok-places.ensures.all in
    rw c.into_nodes.ensures (joined_is_tree i certs (trees_of j.nodes.items) c.requires c.in_ok-sides.ensures.trees whole.1 whole.0)

pub returns-clause-joined : goal.returns-clause-joined
returns-clause-joined c =
    let j = c.places.new.self in
    let whole = made_joined c.args.instance.now c.args.certs.now c.in_ok-joining.joining j c.in_ok-joining.ensures.instance c.in_ok-joining.ensures.certs
    c.in_ok-places.ensures.step c.in_ok-places.ensures.joining c.in_ok-places.ensures.all in
    rw c.into_nodes.ensures whole.0

pub returns-clause-right : goal.returns-clause-right
returns-clause-right c =
    let j = c.places.new.self in
    let whole = made_joined c.args.instance.now c.args.certs.now c.in_ok-joining.joining j c.in_ok-joining.ensures.instance c.in_ok-joining.ensures.certs
    c.in_ok-places.ensures.step c.in_ok-places.ensures.joining c.in_ok-places.ensures.all in
    rw c.into_nodes.ensures whole.1
