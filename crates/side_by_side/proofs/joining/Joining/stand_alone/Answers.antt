use Rattle.std.proofs.Common.{length, subst}
use Rattle.tt_choice.specs.Choice.{bare}
use Rattle.side_by_side.specs.Joined.{IsBest}
use Rattle.side_by_side.specs.Passing.{IsHeldAt}
use Rattle.side_by_side.proofs.joining.Joining.stand_alone.Goals as goal

pub leaf_here-requires-clause-judged : goal.leaf_here-requires-clause-judged
leaf_here-requires-clause-judged c = λ judged.
    let known = c.requires.at.1 in
    let same = c.leaf_at-leaf.ensures known.spot_is.0 known.spot_is.2 in
    rw (c.requires.room, c.choice.ensures, same) (known.closes judged known.spot_is.0 known.spot_is.1)

pub leaf_here-requires-clause-around : goal.leaf_here-requires-clause-around
leaf_here-requires-clause-around c =
    let j = c.args.self.now in
    let known = c.requires.at.1 in
    let same = c.leaf_at-leaf.ensures known.spot_is.0 known.spot_is.2 in
    let held = subst (IsHeldAt j.instance.now (bare j.walk.choice)) known.spot_is.1 known.held in
    rw (c.requires.room, c.choice.ensures, same) held

pub stand_as-requires : goal.stand_as-requires
stand_as-requires c =
    let certs = c.args.self.now.certs.now in
    let at = c.requires.at.0 in
    let known = c.requires.at.1 in
    let own = known.spot_is.0 in
    let same = c.leaf_at-leaf.ensures own known.spot_is.2 in
    let stands = rw (c.requires.room, c.choice.ensures, same) at c.in_ok-standing.ensures.stands in
    let best = subst (IsBest (length certs) at.group.above at.group.at) known.spot_is.1 known.is in
    (at, own, best, c.requires.at.2, stands)
