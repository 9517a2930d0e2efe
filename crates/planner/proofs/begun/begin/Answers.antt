use Rattle.certificate.specs.Trees.{preorder}
use Rattle.planner.proofs.Finished.{begun_is, nodes_prove}
use Rattle.planner.proofs.begun.begin.Goals as goal

pub go_through-requires : goal.go_through-requires
go_through-requires c =
    let cert = c.args.cert.now in
    let proves = nodes_prove c.args.instance.now cert c.requires.proves in
    let begins = c.in_ok-replay.ensures.begins c.args.aims c.args.best cert.low (preorder cert.tree) c.requires.found c.aim-aim.ensures proves in
    (c.args.aims, c.args.best, cert.low, begins)

pub returns-clause-ok : goal.returns-clause-ok
returns-clause-ok c =
    let i = c.args.instance.now in
    let cert = c.args.cert.now in
    let proves = nodes_prove i cert c.requires.proves in
    let begins = c.in_ok-replay.ensures.begins c.args.aims c.args.best cert.low (preorder cert.tree) c.requires.found c.aim-aim.ensures proves in
    begun_is i c.args.aims c.args.best cert c.in_ok-replay.replay c.go_through.new.self c.in_ok-replay.ensures.pieces c.in_ok-replay.ensures.leaves begins
    c.in_ok-go_through.ensures.through c.into_begun.result c.into_begun.ensures.pieces
    c.into_begun.ensures.tasks c.into_begun.ensures.best c.into_begun.ensures.leaves
