use Rattle.std.proofs.Common.{◌≡◌, IfSome, arith, subst}
use Rattle.certificate.specs.declared.version.Version.{Version}
use Rattle.planner.proofs.Ended.{lean_found}
use Rattle.planner.proofs.leaner.lean_proof.Goals as goal

pub returns-in-Ok : goal.returns-in-Ok
returns-in-Ok c =
    lean_found c.args.instance.now c.args.options c.args.course.aims c.args.search.now.best c.aim-low.result c.len-most.result c.in-Ok.found
    c.nodes-nodes.ensures.instance c.requires.aims c.requires.found c.aim-low.ensures (omega (arith, c.len-most.ensures, c.requires.within))
    c.in-Ok.ensures.proves
    (subst (λ (version : Version). IfSome c.in-Ok.found (λ cert. cert.version ≡ version)) c.of_answers-version.ensures c.in-Ok.ensures.version)
    c.in-Ok.ensures.low c.in-Ok.ensures.few
