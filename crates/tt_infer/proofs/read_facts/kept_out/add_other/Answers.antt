use Rattle.std.proofs.lemmas.Bool.{both_ways}
use Rattle.std.proofs.lemmas.Result.{on_ok_weaker}
use Rattle.tt_infer.specs.Reads.{IsOtherOf, KeepsOut}
use Rattle.tt_infer.proofs.AddedFacts.{adds_nowhere, adds_where}
use Rattle.tt_infer.proofs.read_facts.kept_out.add_other.Goals as goal

pub returns-then-is_other_of : goal.returns-then-is_other_of
returns-then-is_other_of c =
    let f = c.args.facts.now in
    let is : IsOtherOf f.instance c.args.m c.args.k = rw c.instance.ensures.value at (c.is_other_of.ensures.0 c.if-is_other_of.true) in
    on_ok_weaker c.add_kept_out.result (adds_where (IsOtherOf f.instance c.args.m c.args.k) (KeepsOut f.known c.args.r c.args.k) _ _ is) c.add_kept_out.ensures

pub returns : goal.returns
returns c =
    let f = c.args.facts.now in
    adds_nowhere (IsOtherOf f.instance c.args.m c.args.k) (KeepsOut f.known c.args.r c.args.k) _
    (λ is. both_ways _ c.if-is_other_of.false (c.is_other_of.ensures.1 (rw c.instance.ensures.value is)))
