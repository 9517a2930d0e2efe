use Rattle.std.proofs.Common.{◌≡◌, [], ◌++◌, List, refl, sym, subst}
use Rattle.search_workers.specs.Account.{IsWholeTree}
use Rattle.planner.specs.Begun.{nodes_of}
use Rattle.search_workers.specs.Gathering.{AreShallow, IsGathered}
use Rattle.search_workers.specs.Task.{IsTask}
use Rattle.search_workers.specs.piece.Piece.{Piece}
use Rattle.search_workers.proofs.Searching.{back_all}
use Rattle.planner.specs.Answers.{in_answer}
use Rattle.planner.specs.PartAnswers.{IsPartTree}
use Rattle.planner.proofs.PartTrees.{any_goals, part_ends, part_outcome, part_shallow, part_whole}
use Rattle.planner.proofs.parting.part_concluded.Goals as goal

pub close_part-requires : goal.close_part-requires
close_part-requires c =
    back_all (IsTask c.args.instance.now) c.requires.part.aside c.args.dealt.search.tasks.items c.requires.part.searching.open_tasks

pub certified-requires-clause-shallow : goal.certified-requires-clause-shallow
certified-requires-clause-shallow c =
    let closed = c.in_ok-close_part.ensures in
    subst AreShallow (sym closed.joined)
    (part_shallow c.args.instance.now c.args.aims c.args.dealt.search c.args.dealt.others.items c.aim-top.result closed.low closed.closed c.requires.part closed.are)

pub certified-requires-clause-whole : goal.certified-requires-clause-whole
certified-requires-clause-whole c =
    let closed = c.in_ok-close_part.ensures in
    subst (λ (ps : List Piece). IsWholeTree ps []) (sym closed.joined)
    (part_whole c.args.instance.now c.args.aims c.args.dealt.search c.args.dealt.others.items c.aim-top.result closed.low closed.closed c.requires.part closed.are)

pub certified-requires-clause-goals : goal.certified-requires-clause-goals
certified-requires-clause-goals c = any_goals c.close_part.new.pieces.items

pub returns-clause-answer : goal.returns-clause-answer
returns-clause-answer c =
    let i = c.args.instance.now in
    let search = c.args.dealt.search in
    let others = c.args.dealt.others.items in
    let closed = c.in_ok-close_part.ensures in
    let cause = c.args.why in
    let told : c.with_version-cert.result ≡ in_answer i c.in_ok-cert.cert = rw (c.with_version-cert.ensures, c.of_answers.ensures) refl in
    let gathered : IsGathered 0 ((search.pieces.items ++ closed.closed) ++ others) c.in_ok-cert.cert =
    subst (λ (ps : List Piece). IsGathered 0 ps c.in_ok-cert.cert) closed.joined c.in_ok-cert.ensures.ok in
    let is : IsPartTree i c.args.options c.args.aims.gap cause search.best (nodes_of others) c.with_version-cert.result =
    subst (IsPartTree i c.args.options c.args.aims.gap cause search.best (nodes_of others)) (sym told)
    (part_ends i c.args.aims search others c.aim-top.result closed.low closed.closed c.requires.part closed.are c.args.options c.in_ok-cert.cert gathered
    c.requires.within cause c.requires.cause) in
    part_outcome i c.args.options c.args.aims.gap cause search.best (nodes_of others) c.with_version-cert.result c.ended.result c.nodes-nodes.ensures.instance
    c.requires.part.searching.found is c.ended.ensures.answer
