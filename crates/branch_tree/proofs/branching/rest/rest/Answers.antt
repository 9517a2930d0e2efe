use Rattle.std.proofs.lemmas.Bool.{both_ways}
use Rattle.branch_tree.proofs.Incomplete.{branches_of}
use Rattle.branch_tree.proofs.branching.rest.rest.Goals as goal

pub returns : goal.returns
returns c =
    let i = c.args.instance.now in
    let choice = c.args.choice.now in
    branches_of i choice c.free_channel.result c.requires.of c.in_default.ensures.none c.in_default-open_range.ensures.none
    (λ some. both_ways _ c.if-is_open.false (c.is_open.ensures.1 some)) c.in_default-free_cap.ensures.none
    c.free_channel.ensures.some c.free_channel.ensures.none
