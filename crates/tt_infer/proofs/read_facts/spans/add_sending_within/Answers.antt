use Rattle.std.proofs.Common.{IsTrue, sym, ◌∙◌}
use Rattle.std.proofs.lemmas.Bool.{both_ways}
use Rattle.std.proofs.lemmas.Result.{on_ok_weaker}
use Rattle.sought_plans.specs.Premises.{sent_within}
use Rattle.tt_infer.specs.Reads.{BoundsSending}
use Rattle.tt_infer.proofs.AddedFacts.{adds_nowhere, adds_where}
use Rattle.tt_infer.proofs.read_facts.spans.add_sending_within.Goals as goal

pub returns-then-sent_within : goal.returns-then-sent_within
returns-then-sent_within c =
    let f = c.args.facts.now in
    on_ok_weaker c.add_sending.result (adds_where (IsTrue (sent_within f.instance f.known c.args.n c.args.a c.args.b c.args.m))
    (BoundsSending c.args.a c.args.m) _ _ (sym c.sent_within.ensures ∙ c.if-sent_within.true)) c.add_sending.ensures

pub returns : goal.returns
returns c =
    let f = c.args.facts.now in
    adds_nowhere (IsTrue (sent_within f.instance f.known c.args.n c.args.a c.args.b c.args.m)) (BoundsSending c.args.a c.args.m) _
    (both_ways _ (sym c.sent_within.ensures ∙ c.if-sent_within.false))
