use Rattle.std.proofs.Common.{◌≡◌, refl, sym, subst}
use Rattle.planner.specs.Answers.{in_answer}
use Rattle.planner.specs.Searched.{IsEndTree}
use Rattle.planner.proofs.Ended.{end_outcome}
use Rattle.planner.proofs.Ending.{ends}
use Rattle.planner.proofs.Searched.{search_ends}
use Rattle.planner.proofs.solving.concluded.Goals as goal

pub returns-clause-answer : goal.returns-clause-answer
returns-clause-answer c =
    let i = c.args.instance.now in
    let s = c.args.search in
    let tree = c.in_ok-cert.ensures.ok in
    let told : c.with_version-cert.result ≡ in_answer i c.in_ok-cert.cert = rw (c.with_version-cert.ensures, c.of_answers.ensures) refl in
    let searched =
    ends i c.args.aims s.pieces.items s.tasks.items s.best tree.low tree.closed c.requires.searching tree.are c.args.options c.args.why c.requires.within
    c.requires.cause in
    let is : IsEndTree i c.args.options c.args.aims.gap c.args.why s.best c.with_version-cert.result =
    subst (IsEndTree i c.args.options c.args.aims.gap c.args.why s.best) (sym told)
    (search_ends i c.args.options c.args.aims c.args.why s.best s.pieces.items tree.closed tree.low c.in_ok-cert.cert c.nodes-nodes.ensures.instance
    c.requires.aims searched tree.gathered) in
    end_outcome i c.args.options c.args.aims.gap c.args.why s.best c.with_version-cert.result c.ended.result c.nodes-nodes.ensures.instance
    c.requires.searching.found is c.ended.ensures.answer
