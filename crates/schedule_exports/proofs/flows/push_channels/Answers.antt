use Rattle.std.proofs.Common.{[], ◌∷◌}
use Rattle.std.proofs.lemmas.List.Elements.{All-append, All-cons, All-nil}
use Rattle.schedule_exports.specs.Flows.{IsFlow}
use Rattle.schedule_exports.proofs.flows.push_channels.Goals as goal
use Rattle.schedule_exports.proofs.flows.push_channels.Goals.{then-is_on+in_ok-push, else-is_on}

pub loop-channel-preserved : goal.loop-channel-preserved
loop-channel-preserved c =
    let Told = IsFlow c.args.instance.now c.args.plan.now in
    elim c.if-is_on.branch [
      | then-is_on+in_ok-push w ↦ rw (w.flows-is, w.in_ok-push.ensures.items)
          (All-append Told c.loop-channel.flows.items (w.flow_of.result ∷ []) c.loop-channel.invariant (All-cons Told w.flow_of.result [] w.flow_of.ensures (All-nil Told)))
      | else-is_on w ↦ rw w.flows-is c.loop-channel.invariant
    ]
