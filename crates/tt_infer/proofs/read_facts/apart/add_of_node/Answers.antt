use Rattle.std.proofs.Common.{◌≡◌}
use Rattle.std.proofs.lemmas.Bool.{both_ways}
use Rattle.std.proofs.lemmas.Result.{on_ok_weaker}
use Rattle.ttp_model.specs.Instance.{source_of}
use Rattle.tt_infer.specs.Reads.{TellsApart}
use Rattle.tt_infer.proofs.AddedFacts.{adds_nowhere, adds_where}
use Rattle.tt_infer.proofs.read_facts.apart.add_of_node.Goals as goal

pub returns-then-are_of_one_node : goal.returns-then-are_of_one_node
returns-then-are_of_one_node c =
    let f = c.args.facts.now in
    let is : source_of f.instance c.args.k ≡ source_of f.instance c.args.m = rw c.instance.ensures.value at (c.are_of_one_node.ensures.0 c.if-are_of_one_node.true) in
    on_ok_weaker c.add_apart.result (adds_where (source_of f.instance c.args.k ≡ source_of f.instance c.args.m) (TellsApart f.known c.args.m c.args.k) _ _ is) c.add_apart.ensures

pub returns : goal.returns
returns c =
    let f = c.args.facts.now in
    adds_nowhere (source_of f.instance c.args.k ≡ source_of f.instance c.args.m) (TellsApart f.known c.args.m c.args.k) _
    (λ is. both_ways _ c.if-are_of_one_node.false (c.are_of_one_node.ensures.1 (rw c.instance.ensures.value is)))
