use Rattle.std.proofs.Common.{subst}
use Rattle.medl_tables.specs.declared.row.Row.{Row}
use Rattle.sentences.proofs.Listing.{next_more}
use Rattle.schedule_exports.specs.Loads.{IsTurn}
use Rattle.schedule_exports.proofs.loads.turns_of.Goals as goal

pub loop-row-preserved : goal.loop-row-preserved
loop-row-preserved c =
    let told = subst (λ (row : Row). IsTurn c.args.instance.now c.args.plan.now row c.turn_of.result) c.row-item.is c.turn_of.ensures in
    next_more (IsTurn c.args.instance.now c.args.plan.now) c.args.rows.now c.loop-row.row-index c.row-item.result c.loop-row.turns.items
    c.push.new.self.items c.turn_of.result c.loop-row-test.true c.loop-row.invariant told c.in_ok-push.ensures.items
