use Rattle.std.proofs.lemmas.Bool.{both_ways}
use Rattle.std.proofs.lemmas.Result.{on_ok_weaker}
use Rattle.tt_infer.specs.Reads.{IsRival, TellsWait}
use Rattle.tt_infer.proofs.AddedFacts.{adds_nowhere, adds_where}
use Rattle.tt_infer.proofs.read_facts.waits.add_rival.Goals as goal

pub returns-then-is_rival : goal.returns-then-is_rival
returns-then-is_rival c =
    let f = c.args.facts.now in
    let is : IsRival f.instance c.args.p c.args.x = rw c.instance.ensures.value at (c.is_rival.ensures.0 c.if-is_rival.true) in
    on_ok_weaker c.add_wait.result (adds_where (IsRival f.instance c.args.p c.args.x) (TellsWait f.known c.args.p c.args.x) _ _ is) c.add_wait.ensures

pub returns : goal.returns
returns c =
    let f = c.args.facts.now in
    adds_nowhere (IsRival f.instance c.args.p c.args.x) (TellsWait f.known c.args.p c.args.x) _
    (λ is. both_ways _ c.if-is_rival.false (c.is_rival.ensures.1 (rw c.instance.ensures.value is)))
