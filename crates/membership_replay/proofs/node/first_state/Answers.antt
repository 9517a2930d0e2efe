use Rattle.std.proofs.Common.{false, nat_lt, refl, rules}
use Rattle.std.proofs.lemmas.List.FromFn.{fill_by_all}
use Rattle.ttp_model.specs.declared.limits.TheConstants.{MOST_NODES}
use Rattle.membership_replay.proofs.node.first_state.Goals as goal

pub returns : goal.returns
returns c =
    let all = fill_by_all (λ k. nat_lt k c.args.count) c.loop-k.vector MOST_NODES false c.loop-k.invariant.0 (search rules) in
    rw all refl
