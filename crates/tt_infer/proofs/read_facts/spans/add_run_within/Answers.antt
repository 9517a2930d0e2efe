use Rattle.std.proofs.Common.{IsTrue, sym, ◌∙◌}
use Rattle.std.proofs.lemmas.Bool.{both_ways}
use Rattle.std.proofs.lemmas.Result.{on_ok_weaker}
use Rattle.sought_plans.specs.Premises.{runs_within}
use Rattle.tt_infer.specs.Reads.{BoundsRun}
use Rattle.tt_infer.proofs.AddedFacts.{adds_nowhere, adds_where}
use Rattle.tt_infer.proofs.read_facts.spans.add_run_within.Goals as goal

pub returns-then-runs_within : goal.returns-then-runs_within
returns-then-runs_within c =
    let f = c.args.facts.now in
    on_ok_weaker c.add_run.result (adds_where (IsTrue (runs_within f.instance f.known c.args.n c.args.a c.args.b c.args.p)) (BoundsRun c.args.a c.args.p) _
    _ (sym c.runs_within.ensures ∙ c.if-runs_within.true)) c.add_run.ensures

pub returns : goal.returns
returns c =
    let f = c.args.facts.now in
    adds_nowhere (IsTrue (runs_within f.instance f.known c.args.n c.args.a c.args.b c.args.p)) (BoundsRun c.args.a c.args.p) _
    (both_ways _ (sym c.runs_within.ensures ∙ c.if-runs_within.false))
