use Rattle.std.proofs.Common.{◌∙◌}
use Rattle.std.proofs.lemmas.Result.{err_from_is_err_and}
use Rattle.search_core.proofs.Turned.{goes_on, stops_there, ends_there, own_rest}
use Rattle.search_core.proofs.world.World.run.Goals as goal

pub returns-in_err-step : goal.returns-in_err-step
returns-in_err-step c =
    let p = err_from_is_err_and c.from_residual.result c.from_residual.ensures.1 in
    rw (p.1, p.2, ← c.from_vec-waiting.ensures.items)
    (stops_there c.args.self.now c.loop-event.self c.step.new.self _ c.loop-event.waiting.items c.pop_front.new.self.items c.in-Some.event
    c.in_err-step.field-0.0 c.in-Some.ensures.items c.in_err-step.ensures c.loop-event.invariant)

pub loop-event-preserved : goal.loop-event-preserved
loop-event-preserved c =
    goes_on _ c.loop-event.self c.step.new.self _ c.loop-event.waiting.items c.pop_front.new.self.items c.in-Some.event c.in_ok-step.field-0
    c.in-Some.ensures.items c.in_ok-step.ensures c.loop-event.invariant

pub loop-event-preserved-in_ok-step : goal.loop-event-preserved-in_ok-step
loop-event-preserved-in_ok-step c =
    goes_on _ c.loop-event.self c.step.new.self _ c.loop-event.waiting.items c.pop_front.new.self.items c.in-Some.event c.in_ok-step.field-0
    c.in-Some.ensures.items c.in_ok-step.ensures c.loop-event.invariant

pub returns : goal.returns
returns c =
    let h = c.in_default.ensures in
    rw (← c.from_vec-waiting.ensures.items)
    (ends_there c.args.self.now c.loop-event.self _ c.loop-event.waiting.items (own_rest _ (h.items ∙ h.rest)) c.loop-event.invariant)
