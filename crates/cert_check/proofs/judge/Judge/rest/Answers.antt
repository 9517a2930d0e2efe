use Rattle.std.proofs.Common.{length, slice_index_or, IsTrue, false, arith, refl, sym, ◌∙◌}
use Rattle.std.proofs.lemmas.List.{get_or_read_under}
use Rattle.std.proofs.lemmas.List.Elements.{All-contains}
use Rattle.cert_check.specs.Waiting.{RunCloses}
use Rattle.cert_check.proofs.Runs.{none_judged, closed_on, run_fails}
use Rattle.cert_check.proofs.judge.Judge.rest.Goals as goal

pub loop-place-init : goal.loop-place-init
loop-place-init g c = none_judged c.args.self.now.instance.now c.args.self.now.low

pub returns-in-Err : goal.returns-in-Err
returns-in-Err g c =
    run_fails c.args.self.now.instance.now c.args.self.now.low c.loop-place.place c.args.leaves.now c.in-Err.fault c.loop-place.invariant c.in-Err.ensures

pub loop-place-preserved : goal.loop-place-preserved
loop-place-preserved g c =
    closed_on c.args.self.now.instance.now c.args.self.now.low c.loop-place.place c.args.leaves.now c.loop-place.invariant c.in-Ok.ensures

pub run_there-requires-clause-closes : goal.run_there-requires-clause-closes
run_there-requires-clause-closes g c = λ is.
    let place = c.loop-place.place in
    let marks = c.in-Some.marks.items in
    let marked : IsTrue (slice_index_or marks place false) = sym (get_or_read_under marks place (length marks)
    c.index.result.now false c.index.ensures (omega (arith, c.loop-place-test.true, c.in-Some.ensures.count)) refl) ∙ is in
    All-contains (RunCloses c.args.self.now.instance.now c.args.self.now.low c.args.leaves.now) c.args.closed.now place c.requires.closed
    (c.in-Some.ensures.only place c.loop-place-test.true marked)
