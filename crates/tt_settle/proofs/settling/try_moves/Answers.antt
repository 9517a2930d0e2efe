use Rattle.std.proofs.Common.{◌||◌, length}
use Rattle.ttp_model.specs.declared.plan.Plan.{Plan}
use Rattle.ttp_model.specs.Lists.{EachBelow}
use Rattle.tt_settle.specs.Settling.{RestsInTime, RestsAmongTwins, RestAsSilentTwins, RestsOnChannel, RestsWhole}
use Rattle.tt_settle.proofs.Trying.{tried_then}
use Rattle.tt_settle.proofs.settling.try_moves.Goals as goal

pub returns : goal.returns
returns c =
    let i = c.args.instance.now in
    let a = c.order_twins-plan.result in
    let b = c.order_silent_twins-plan.result in
    let e = c.turn_frames-plan.result in
    let d = c.go_earlier-plan.result in
    let Twins = λ (r : Plan). EachBelow (length i.processes) (RestsAmongTwins i r) in
    let Silent = λ (r : Plan). EachBelow (length i.nodes) (λ v. EachBelow v (λ u. RestAsSilentTwins i r u v)) in
    let Channels = λ (r : Plan). EachBelow (length i.messages) (RestsOnChannel i r) in
    let two = tried_then i c.args.plan Twins Silent (λ r. Twins r × Silent r) a.0 b.0 a.1 b.1 (λ one other. (one, other)) c.order_twins-plan.ensures c.order_silent_twins-plan.ensures in
    let three = tried_then i c.args.plan (λ r. Twins r × Silent r) Channels (λ r. (Twins r × Silent r) × Channels r) b.0 e.0 (a.1 || b.1) e.1 (λ one other. (one, other)) two c.turn_frames-plan.ensures in
    tried_then i c.args.plan (λ r. (Twins r × Silent r) × Channels r) (RestsInTime i) (RestsWhole i) e.0 d.0 ((a.1 || b.1) || e.1) d.1 (λ before in_time. record { in_time = in_time; twins = before.0.0; silent_twins = before.0.1; channels = before.1 }) three c.go_earlier-plan.ensures
