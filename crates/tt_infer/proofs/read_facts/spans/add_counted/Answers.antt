use Rattle.std.proofs.Common.{IsTrue, sym, ◌∙◌}
use Rattle.std.proofs.lemmas.Bool.{both_ways}
use Rattle.std.proofs.lemmas.Result.{on_ok_weaker}
use Rattle.tt_infer.specs.Reads.{BoundsSending, counted_within}
use Rattle.tt_infer.proofs.AddedFacts.{adds_nowhere, adds_where}
use Rattle.tt_infer.proofs.read_facts.spans.add_counted.Goals as goal

pub returns-then-counted_within : goal.returns-then-counted_within
returns-then-counted_within c =
    let f = c.args.facts.now in
    on_ok_weaker c.add_sending.result (adds_where (IsTrue (counted_within f.instance f.choice f.known c.args.k c.args.n c.args.a c.args.b c.args.m))
    (BoundsSending c.args.a c.args.m) _ _ (sym c.counted_within.ensures ∙ c.if-counted_within.true)) c.add_sending.ensures

pub returns : goal.returns
returns c =
    let f = c.args.facts.now in
    adds_nowhere (IsTrue (counted_within f.instance f.choice f.known c.args.k c.args.n c.args.a c.args.b c.args.m)) (BoundsSending c.args.a c.args.m) _
    (both_ways _ (sym c.counted_within.ensures ∙ c.if-counted_within.false))
