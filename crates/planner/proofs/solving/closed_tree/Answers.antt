use Rattle.std.proofs.Common.{List, [], sym, subst}
use Rattle.search_workers.specs.piece.Piece.{Piece}
use Rattle.search_workers.specs.Account.{IsWholeTree}
use Rattle.search_workers.specs.Searching.{aim_of}
use Rattle.search_workers.specs.Gathering.{AreShallow, HaveGoals}
use Rattle.planner.specs.Closing.{AreClosedBehind}
use Rattle.planner.proofs.Ending.{end_shallow, end_whole, end_goals}
use Rattle.planner.proofs.solving.closed_tree.Goals as goal

pub certified-requires-clause-shallow : goal.certified-requires-clause-shallow
certified-requires-clause-shallow c =
    let i = c.args.instance.now in
    let behind : AreClosedBehind i c.args.pieces.items c.args.tasks.items (aim_of i c.args.aims c.args.best.now) c.close_behind.new.pieces.items c.in_ok-low.low = rw (← c.aim-top.ensures) c.in_ok-low.ensures in
    subst AreShallow (sym behind.joined)
    (end_shallow i c.args.aims c.args.pieces.items c.args.tasks.items c.args.best.now c.in_ok-low.low behind.closed c.requires behind.are)

pub certified-requires-clause-whole : goal.certified-requires-clause-whole
certified-requires-clause-whole c =
    let i = c.args.instance.now in
    let behind : AreClosedBehind i c.args.pieces.items c.args.tasks.items (aim_of i c.args.aims c.args.best.now) c.close_behind.new.pieces.items c.in_ok-low.low = rw (← c.aim-top.ensures) c.in_ok-low.ensures in
    subst (λ (ps : List Piece). IsWholeTree ps []) (sym behind.joined)
    (end_whole i c.args.aims c.args.pieces.items c.args.tasks.items c.args.best.now c.in_ok-low.low behind.closed c.requires behind.are)

pub certified-requires-clause-goals : goal.certified-requires-clause-goals
certified-requires-clause-goals c =
    let i = c.args.instance.now in
    let behind : AreClosedBehind i c.args.pieces.items c.args.tasks.items (aim_of i c.args.aims c.args.best.now) c.close_behind.new.pieces.items c.in_ok-low.low = rw (← c.aim-top.ensures) c.in_ok-low.ensures in
    subst (HaveGoals c.in_ok-low.low) (sym behind.joined)
    (end_goals i c.args.aims c.args.pieces.items c.args.tasks.items c.args.best.now c.in_ok-low.low behind.closed c.requires behind.are)
