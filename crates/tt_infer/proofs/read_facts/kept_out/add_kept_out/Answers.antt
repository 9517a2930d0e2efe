use Rattle.std.proofs.Common.{◌≡◌, arith, inl, inr}
use Rattle.std.proofs.lemmas.Result.{on_ok_weaker}
use Rattle.tt_infer.specs.Reads.{KeepsOut}
use Rattle.tt_infer.specs.declared.fact.Fact.TheVariants.{FirstRound, LateRound}
use Rattle.tt_infer.proofs.AddedFacts.{adds_as, adds_none}
use Rattle.tt_infer.proofs.read_facts.kept_out.add_kept_out.Goals as goal

pub returns-then-r-lo : goal.returns-then-r-lo
returns-then-r-lo c =
    let k = c.args.k in
    on_ok_weaker c.add.result (adds_as (λ fact. fact ≡ FirstRound k) (KeepsOut c.args.facts.now.known c.args.r k) _ _
    (λ fact one. inl (omega (arith, c.if-r-lo.true, c.lo.ensures), one))
    (λ fact some. elim some [ inl later ↦ later.1 | inr earlier ↦ absurd (omega (arith, c.if-r-lo.true, c.lo.ensures, earlier.0)) ])) c.add.ensures

pub returns-then-top-r : goal.returns-then-top-r
returns-then-top-r c =
    let k = c.args.k in
    on_ok_weaker c.add-then-top-r.result (adds_as (λ fact. fact ≡ LateRound k) (KeepsOut c.args.facts.now.known c.args.r k) _ _
    (λ fact one. inr (omega (arith, c.if-r-lo.false, c.lo.ensures), omega (arith, c.if-top-r.true, c.top.ensures), one))
    (λ fact some. elim some [ inl later ↦ absurd (omega (arith, c.if-r-lo.false, c.lo.ensures, later.0)) | inr earlier ↦ earlier.2 ])) c.add-then-top-r.ensures

pub returns : goal.returns
returns c = adds_none (KeepsOut c.args.facts.now.known c.args.r c.args.k) _ (λ fact some. elim some [
  | inl later ↦ omega (arith, c.if-r-lo.false, c.lo.ensures, later.0)
  | inr earlier ↦ omega (arith, c.if-top-r.false, c.top.ensures, earlier.1)
])
