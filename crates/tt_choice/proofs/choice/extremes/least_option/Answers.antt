use Rattle.std.proofs.Common.{◌≤◌, ℕ}
use Rattle.std.proofs.lemmas.List.Elements.{All-contains}
use Rattle.ttp_model.specs.declared.limits.TheConstants.{MOST_BYTES}
use Rattle.tt_choice.proofs.choice.extremes.least_option.Goals as goal

pub returns-in-Some-clause-small : goal.returns-in-Some-clause-small
returns-in-Some-clause-small c =
    let own = rw c.in-Some.is at c.requires.own in
    let list = c.nodes.ensures.instance.capacities c.args.n c.requires.node in
    All-contains (λ (k : ℕ). k ≤ MOST_BYTES) _ _ list.small own
