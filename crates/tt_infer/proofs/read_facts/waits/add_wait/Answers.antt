use Rattle.std.proofs.Common.{◌≡◌, IsFalse, sym, ◌∙◌}
use Rattle.std.proofs.lemmas.Bool.{both_ways}
use Rattle.std.proofs.lemmas.Result.{on_ok_weaker}
use Rattle.sought_plans.specs.Known.{bef_of}
use Rattle.tt_infer.specs.declared.fact.Fact.TheVariants.{End, Order}
use Rattle.tt_infer.proofs.AddedFacts.{adds_just, adds_too}
use Rattle.tt_infer.proofs.read_facts.waits.add_wait.Goals as goal

pub returns-then-bef : goal.returns-then-bef
returns-then-bef c =
    let known = bef_of c.args.facts.now.known c.args.p c.args.x in
    on_ok_weaker c.add.result (adds_just (λ fact. fact ≡ Order c.args.p c.args.x) (λ fact. fact ≡ End c.args.x) (IsFalse known) _ _
    (λ unknown. both_ways _ unknown (sym c.bef.ensures ∙ c.if-bef.true))) c.add.ensures

pub returns : goal.returns
returns c =
    let known = bef_of c.args.facts.now.known c.args.p c.args.x in
    on_ok_weaker c.add_two.result (adds_too (λ fact. fact ≡ Order c.args.p c.args.x) (λ fact. fact ≡ End c.args.x) (IsFalse known) _ _
    (sym c.bef.ensures ∙ c.if-bef.false)) c.add_two.ensures
