-- Each row of the table names what is there.
use Rattle.tt_infer.proofs.Sending.{receiver_is}
use Rattle.certificate_reasons.proofs.steps.step_reason.Goals as goal

pub release-requires : goal.release-requires
release-requires c = rw c.in-EsRelease.is at c.requires

pub returns-in-EsRelease : goal.returns-in-EsRelease
returns-in-EsRelease c = rw c.in-EsRelease.is c.release.ensures

pub link_start-requires : goal.link_start-requires
link_start-requires c = rw c.in-EsLink.is at c.requires

pub returns-in-EsLink : goal.returns-in-EsLink
returns-in-EsLink c = rw c.in-EsLink.is c.link_start.ensures

pub behind_start-requires-clause-first : goal.behind_start-requires-clause-first
behind_start-requires-clause-first c = (rw c.in-EsBefore.is at c.requires).first

pub behind_start-requires-clause-second : goal.behind_start-requires-clause-second
behind_start-requires-clause-second c = (rw c.in-EsBefore.is at c.requires).second

pub returns-in-EsBefore : goal.returns-in-EsBefore
returns-in-EsBefore c = rw c.in-EsBefore.is c.behind_start.ensures

pub arrival_start-requires : goal.arrival_start-requires
arrival_start-requires c = (rw c.in-EsArrive.is at c.requires).0

pub returns-in-EsArrive : goal.returns-in-EsArrive
returns-in-EsArrive c = rw c.in-EsArrive.is c.arrival_start.ensures

pub message_start-requires : goal.message_start-requires
message_start-requires c = (rw c.in-EsMessage.is at c.requires).0

pub returns-in-EsMessage : goal.returns-in-EsMessage
returns-in-EsMessage c = rw c.in-EsMessage.is c.message_start.ensures

pub send_round-requires : goal.send_round-requires
send_round-requires c = rw c.in-LoSend.is at c.requires

pub returns-in-LoSend : goal.returns-in-LoSend
returns-in-LoSend c = rw c.in-LoSend.is c.send_round.ensures

pub own_end-requires : goal.own_end-requires
own_end-requires c = rw c.in-LeOwn.is at c.requires

pub returns-in-LeOwn : goal.returns-in-LeOwn
returns-in-LeOwn c = rw c.in-LeOwn.is c.own_end.ensures

pub link_end-requires : goal.link_end-requires
link_end-requires c = rw c.in-LeLink.is at c.requires

pub returns-in-LeLink : goal.returns-in-LeLink
returns-in-LeLink c = rw c.in-LeLink.is c.link_end.ensures

pub before_end-requires-clause-first : goal.before_end-requires-clause-first
before_end-requires-clause-first c = (rw c.in-LeBefore.is at c.requires).first

pub before_end-requires-clause-second : goal.before_end-requires-clause-second
before_end-requires-clause-second c = (rw c.in-LeBefore.is at c.requires).second

pub returns-in-LeBefore : goal.returns-in-LeBefore
returns-in-LeBefore c = rw c.in-LeBefore.is c.before_end.ensures

pub message_end-requires-clause-message : goal.message_end-requires-clause-message
message_end-requires-clause-message c = (rw c.in-LeMessage.is at c.requires).0

pub message_end-requires-clause-process : goal.message_end-requires-clause-process
message_end-requires-clause-process c = receiver_is _ _ _ c.instance-instance.ensures.inference.instance (rw c.in-LeMessage.is at c.requires)

pub returns-in-LeMessage : goal.returns-in-LeMessage
returns-in-LeMessage c = rw c.in-LeMessage.is c.message_end.ensures

pub send_end-requires : goal.send_end-requires
send_end-requires c = rw c.in-LeSend.is at c.requires

pub returns-in-LeSend : goal.returns-in-LeSend
returns-in-LeSend c = rw c.in-LeSend.is c.send_end.ensures

pub arrive_round-requires-clause-message : goal.arrive_round-requires-clause-message
arrive_round-requires-clause-message c = (rw c.in-HiArrive.is at c.requires).0

pub arrive_round-requires-clause-process : goal.arrive_round-requires-clause-process
arrive_round-requires-clause-process c = receiver_is _ _ _ c.instance-instance.ensures.inference.instance (rw c.in-HiArrive.is at c.requires)

pub returns-in-HiArrive : goal.returns-in-HiArrive
returns-in-HiArrive c = rw c.in-HiArrive.is c.arrive_round.ensures

pub window_order-requires-clause-first : goal.window_order-requires-clause-first
window_order-requires-clause-first c = (rw c.in-OrdWindow.is at c.requires).first

pub window_order-requires-clause-second : goal.window_order-requires-clause-second
window_order-requires-clause-second c = (rw c.in-OrdWindow.is at c.requires).second

pub returns-in-OrdWindow : goal.returns-in-OrdWindow
returns-in-OrdWindow c = rw c.in-OrdWindow.is c.window_order.ensures

pub twin_order-requires-clause-first : goal.twin_order-requires-clause-first
twin_order-requires-clause-first c = (rw c.in-OrdTwin.is at c.requires).first

pub twin_order-requires-clause-second : goal.twin_order-requires-clause-second
twin_order-requires-clause-second c = (rw c.in-OrdTwin.is at c.requires).second

pub returns-in-OrdTwin : goal.returns-in-OrdTwin
returns-in-OrdTwin c = rw c.in-OrdTwin.is c.twin_order.ensures

pub settled-requires : goal.settled-requires
settled-requires c = rw c.in-UsSettled.is at c.requires

pub returns-in-UsSettled : goal.returns-in-UsSettled
returns-in-UsSettled c = rw c.in-UsSettled.is c.settled.ensures

pub window-requires : goal.window-requires
window-requires c = rw c.in-XWindow.is at c.requires

pub returns-in-XWindow : goal.returns-in-XWindow
returns-in-XWindow c = rw c.in-XWindow.is c.window.ensures

pub rounds-requires : goal.rounds-requires
rounds-requires c = rw c.in-XRound.is at c.requires

pub returns-in-XRound : goal.returns-in-XRound
returns-in-XRound c = rw c.in-XRound.is c.rounds.ensures

pub returns-in_ok-cycle-in-XCycle : goal.returns-in_ok-cycle-in-XCycle
returns-in_ok-cycle-in-XCycle c = rw (c.in-XCycle.is, ← c.as_slice.ensures.value) c.in_ok-cycle-in-XCycle.ensures

pub load-requires : goal.load-requires
load-requires c = rw c.in-XLoad.is at c.requires

pub returns-in-XLoad : goal.returns-in-XLoad
returns-in-XLoad c = rw c.in-XLoad.is c.load.ensures

pub frame-requires : goal.frame-requires
frame-requires c = rw c.in-XFrame.is at c.requires

pub returns-in-XFrame : goal.returns-in-XFrame
returns-in-XFrame c = rw c.in-XFrame.is c.frame.ensures

pub frames-requires : goal.frames-requires
frames-requires c = rw c.in-XFrames.is at c.requires

pub returns-in-XFrames : goal.returns-in-XFrames
returns-in-XFrames c = rw c.in-XFrames.is c.frames.ensures

pub halves-requires : goal.halves-requires
halves-requires c = (rw c.in-XChannel.is at c.requires).0

pub returns-in-XChannel : goal.returns-in-XChannel
returns-in-XChannel c = rw c.in-XChannel.is c.halves.ensures

pub late-requires : goal.late-requires
late-requires c = rw c.in-XLate.is at c.requires

pub returns-in-XLate : goal.returns-in-XLate
returns-in-XLate c = rw c.in-XLate.is c.late.ensures

pub returns-in-XSilent : goal.returns-in-XSilent
returns-in-XSilent c = rw c.in-XSilent.is c.silent.ensures

pub returns-in-XMirror : goal.returns-in-XMirror
returns-in-XMirror c = rw c.in-XMirror.is c.mirror.ensures
