use Rattle.std.proofs.Common.{◌≡◌, ◌⊎◌, arith, inl, inr}
use Rattle.std.proofs.lemmas.Result.{on_ok_weaker}
use Rattle.tt_infer.specs.Reads.{TellsApart}
use Rattle.tt_infer.specs.declared.fact.Fact.TheVariants.{FirstRound, LateRound}
use Rattle.tt_infer.proofs.AddedFacts.{adds_as, adds_none}
use Rattle.tt_infer.proofs.read_facts.apart.add_apart.Goals as goal

pub returns-then-top-lo : goal.returns-then-top-lo
returns-then-top-lo c =
    let m = c.args.m in
    let k = c.args.k in
    on_ok_weaker c.add_two.result (adds_as (λ fact. (fact ≡ LateRound k) ⊎ (fact ≡ FirstRound m)) (TellsApart c.args.facts.now.known m k) _ _
    (λ fact one. inl (omega (arith, c.if-top-lo.true, c.top.ensures, c.lo.ensures), one))
    (λ fact some. elim some [ inl before ↦ before.1 | inr behind ↦ absurd (omega (arith, c.if-top-lo.true, c.top.ensures, c.lo.ensures, behind.0)) ])) c.add_two.ensures

pub returns-then-top-lo-2 : goal.returns-then-top-lo-2
returns-then-top-lo-2 c =
    let m = c.args.m in
    let k = c.args.k in
    on_ok_weaker c.add_two-then-top-lo-2.result (adds_as (λ fact. (fact ≡ LateRound m) ⊎ (fact ≡ FirstRound k)) (TellsApart c.args.facts.now.known m k) _ _
    (λ fact one. inr (omega (arith, c.if-top-lo.false, c.top.ensures, c.lo.ensures), omega (arith, c.if-top-lo-2.true, c.top-2.ensures, c.lo-2.ensures), one))
    (λ fact some. elim some [ inl before ↦ absurd (omega (arith, c.if-top-lo.false, c.top.ensures, c.lo.ensures, before.0)) | inr behind ↦ behind.2 ])) c.add_two-then-top-lo-2.ensures

pub returns : goal.returns
returns c = adds_none (TellsApart c.args.facts.now.known c.args.m c.args.k) _ (λ fact some. elim some [
  | inl before ↦ omega (arith, c.if-top-lo.false, c.top.ensures, c.lo.ensures, before.0)
  | inr behind ↦ omega (arith, c.if-top-lo-2.false, c.top-2.ensures, c.lo-2.ensures, behind.1)
])
