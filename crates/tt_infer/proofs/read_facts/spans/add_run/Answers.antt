use Rattle.std.proofs.Common.{◌≡◌, ◌≤◌, arith}
use Rattle.std.proofs.lemmas.Result.{on_ok_weaker}
use Rattle.tt_infer.specs.declared.fact.Fact.TheVariants.{End, Start}
use Rattle.tt_infer.proofs.AddedFacts.{adds_just, adds_too}
use Rattle.tt_infer.proofs.read_facts.spans.add_run.Goals as goal

pub returns-then-a-eq0 : goal.returns-then-a-eq0
returns-then-a-eq0 c = on_ok_weaker c.add.result
    (adds_just (λ fact. fact ≡ End c.args.p) (λ fact. fact ≡ Start c.args.p) (1 ≤ c.args.a) _ _ (λ some. omega (arith, some, c.if-a-eq0.true))) c.add.ensures

pub returns : goal.returns
returns c = on_ok_weaker c.add_two.result
    (adds_too (λ fact. fact ≡ End c.args.p) (λ fact. fact ≡ Start c.args.p) (1 ≤ c.args.a) _ _ (omega (arith, c.if-a-eq0.false))) c.add_two.ensures
