-- Of each row of the table what it names.
use Rattle.certificate_reasons.proofs.names.absent_of.Goals as goal

pub no_process-requires : goal.no_process-requires
no_process-requires c = rw c.instance-instance.ensures.value (rw c.in-EsRelease.is at c.requires)

pub returns-in-EsRelease : goal.returns-in-EsRelease
returns-in-EsRelease c = rw c.in-EsRelease.is (rw c.instance-instance.ensures.value at c.no_process.ensures)

pub no_link-requires : goal.no_link-requires
no_link-requires c = rw c.instance-instance.ensures.value (rw c.in-EsLink.is at c.requires)

pub returns-in-EsLink : goal.returns-in-EsLink
returns-in-EsLink c = rw c.in-EsLink.is (rw c.instance-instance.ensures.value at c.no_link.ensures)

pub no_pair-requires : goal.no_pair-requires
no_pair-requires c = rw c.instance-instance.ensures.value (rw c.in-EsBefore.is at c.requires)

pub returns-in-EsBefore : goal.returns-in-EsBefore
returns-in-EsBefore c = rw c.in-EsBefore.is (rw c.instance-instance.ensures.value at c.no_pair.ensures)

pub no_receiver-requires : goal.no_receiver-requires
no_receiver-requires c = rw c.instance-instance.ensures.value (rw c.in-EsArrive.is at c.requires)

pub returns-in-EsArrive : goal.returns-in-EsArrive
returns-in-EsArrive c = rw c.in-EsArrive.is (rw c.instance-instance.ensures.value at c.no_receiver.ensures)

pub no_receiver-requires-in-EsMessage : goal.no_receiver-requires-in-EsMessage
no_receiver-requires-in-EsMessage c = rw c.instance-instance.ensures.value (rw c.in-EsMessage.is at c.requires)

pub returns-in-EsMessage : goal.returns-in-EsMessage
returns-in-EsMessage c = rw c.in-EsMessage.is (rw c.instance-instance.ensures.value at c.no_receiver-in-EsMessage.ensures)

pub no_message-requires : goal.no_message-requires
no_message-requires c = rw c.instance-instance.ensures.value (rw c.in-LoSend.is at c.requires)

pub returns-in-LoSend : goal.returns-in-LoSend
returns-in-LoSend c = rw c.in-LoSend.is (rw c.instance-instance.ensures.value at c.no_message.ensures)

pub no_process-requires-in-LeOwn : goal.no_process-requires-in-LeOwn
no_process-requires-in-LeOwn c = rw c.instance-instance.ensures.value (rw c.in-LeOwn.is at c.requires)

pub returns-in-LeOwn : goal.returns-in-LeOwn
returns-in-LeOwn c = rw c.in-LeOwn.is (rw c.instance-instance.ensures.value at c.no_process-in-LeOwn.ensures)

pub no_link-requires-in-LeLink : goal.no_link-requires-in-LeLink
no_link-requires-in-LeLink c = rw c.instance-instance.ensures.value (rw c.in-LeLink.is at c.requires)

pub returns-in-LeLink : goal.returns-in-LeLink
returns-in-LeLink c = rw c.in-LeLink.is (rw c.instance-instance.ensures.value at c.no_link-in-LeLink.ensures)

pub no_pair-requires-in-LeBefore : goal.no_pair-requires-in-LeBefore
no_pair-requires-in-LeBefore c = rw c.instance-instance.ensures.value (rw c.in-LeBefore.is at c.requires)

pub returns-in-LeBefore : goal.returns-in-LeBefore
returns-in-LeBefore c = rw c.in-LeBefore.is (rw c.instance-instance.ensures.value at c.no_pair-in-LeBefore.ensures)

pub no_receiver-requires-in-LeMessage : goal.no_receiver-requires-in-LeMessage
no_receiver-requires-in-LeMessage c = rw c.instance-instance.ensures.value (rw c.in-LeMessage.is at c.requires)

pub returns-in-LeMessage : goal.returns-in-LeMessage
returns-in-LeMessage c = rw c.in-LeMessage.is (rw c.instance-instance.ensures.value at c.no_receiver-in-LeMessage.ensures)

pub no_message-requires-in-LeSend : goal.no_message-requires-in-LeSend
no_message-requires-in-LeSend c = rw c.instance-instance.ensures.value (rw c.in-LeSend.is at c.requires)

pub returns-in-LeSend : goal.returns-in-LeSend
returns-in-LeSend c = rw c.in-LeSend.is (rw c.instance-instance.ensures.value at c.no_message-in-LeSend.ensures)

pub no_receiver-requires-in-HiArrive : goal.no_receiver-requires-in-HiArrive
no_receiver-requires-in-HiArrive c = rw c.instance-instance.ensures.value (rw c.in-HiArrive.is at c.requires)

pub returns-in-HiArrive : goal.returns-in-HiArrive
returns-in-HiArrive c = rw c.in-HiArrive.is (rw c.instance-instance.ensures.value at c.no_receiver-in-HiArrive.ensures)

pub no_pair-requires-in-OrdWindow : goal.no_pair-requires-in-OrdWindow
no_pair-requires-in-OrdWindow c = rw c.instance-instance.ensures.value (rw c.in-OrdWindow.is at c.requires)

pub returns-in-OrdWindow : goal.returns-in-OrdWindow
returns-in-OrdWindow c = rw c.in-OrdWindow.is (rw c.instance-instance.ensures.value at c.no_pair-in-OrdWindow.ensures)

pub no_pair-requires-in-OrdTwin : goal.no_pair-requires-in-OrdTwin
no_pair-requires-in-OrdTwin c = rw c.instance-instance.ensures.value (rw c.in-OrdTwin.is at c.requires)

pub returns-in-OrdTwin : goal.returns-in-OrdTwin
returns-in-OrdTwin c = rw c.in-OrdTwin.is (rw c.instance-instance.ensures.value at c.no_pair-in-OrdTwin.ensures)

pub no_process-requires-in-UsSettled : goal.no_process-requires-in-UsSettled
no_process-requires-in-UsSettled c = rw c.instance-instance.ensures.value (rw c.in-UsSettled.is at c.requires)

pub returns-in-UsSettled : goal.returns-in-UsSettled
returns-in-UsSettled c = rw c.in-UsSettled.is (rw c.instance-instance.ensures.value at c.no_process-in-UsSettled.ensures)

pub no_process-requires-in-XWindow : goal.no_process-requires-in-XWindow
no_process-requires-in-XWindow c = rw c.instance-instance.ensures.value (rw c.in-XWindow.is at c.requires)

pub returns-in-XWindow : goal.returns-in-XWindow
returns-in-XWindow c = rw c.in-XWindow.is (rw c.instance-instance.ensures.value at c.no_process-in-XWindow.ensures)

pub no_message-requires-in-XRound : goal.no_message-requires-in-XRound
no_message-requires-in-XRound c = rw c.instance-instance.ensures.value (rw c.in-XRound.is at c.requires)

pub returns-in-XRound : goal.returns-in-XRound
returns-in-XRound c = rw c.in-XRound.is (rw c.instance-instance.ensures.value at c.no_message-in-XRound.ensures)

pub no_ring-requires : goal.no_ring-requires
no_ring-requires c = rw c.instance-instance.ensures.value (rw c.in-XCycle.is at c.requires)

pub returns-in-XCycle : goal.returns-in-XCycle
returns-in-XCycle c = rw c.in-XCycle.is (rw c.instance-instance.ensures.value at c.no_ring.ensures)

pub no_node-requires : goal.no_node-requires
no_node-requires c = rw c.instance-instance.ensures.value (rw c.in-XLoad.is at c.requires)

pub returns-in-XLoad : goal.returns-in-XLoad
returns-in-XLoad c = rw c.in-XLoad.is (rw c.instance-instance.ensures.value at c.no_node.ensures)

pub no_message-requires-in-XFrame : goal.no_message-requires-in-XFrame
no_message-requires-in-XFrame c = rw c.instance-instance.ensures.value (rw c.in-XFrame.is at c.requires)

pub returns-in-XFrame : goal.returns-in-XFrame
returns-in-XFrame c = rw c.in-XFrame.is (rw c.instance-instance.ensures.value at c.no_message-in-XFrame.ensures)

pub no_node-requires-in-XFrames : goal.no_node-requires-in-XFrames
no_node-requires-in-XFrames c = rw c.instance-instance.ensures.value (rw c.in-XFrames.is at c.requires)

pub returns-in-XFrames : goal.returns-in-XFrames
returns-in-XFrames c = rw c.in-XFrames.is (rw c.instance-instance.ensures.value at c.no_node-in-XFrames.ensures)

pub no_half-requires : goal.no_half-requires
no_half-requires c = rw c.instance-instance.ensures.value (rw c.in-XChannel.is at c.requires)

pub returns-in-XChannel : goal.returns-in-XChannel
returns-in-XChannel c = rw c.in-XChannel.is (rw c.instance-instance.ensures.value at c.no_half.ensures)

pub no_message-requires-in-XLate : goal.no_message-requires-in-XLate
no_message-requires-in-XLate c = rw c.instance-instance.ensures.value (rw c.in-XLate.is at c.requires)

pub returns-in-XLate : goal.returns-in-XLate
returns-in-XLate c = rw c.in-XLate.is (rw c.instance-instance.ensures.value at c.no_message-in-XLate.ensures)

pub no_nodes-requires : goal.no_nodes-requires
no_nodes-requires c = rw c.instance-instance.ensures.value (rw c.in-XSilent.is at c.requires)

pub returns-in-XSilent : goal.returns-in-XSilent
returns-in-XSilent c = rw c.in-XSilent.is (rw c.instance-instance.ensures.value at c.no_nodes.ensures)

pub no_message-requires-in-XMirror : goal.no_message-requires-in-XMirror
no_message-requires-in-XMirror c = rw c.instance-instance.ensures.value (rw c.in-XMirror.is at c.requires)

pub returns-in-XMirror : goal.returns-in-XMirror
returns-in-XMirror c = rw c.in-XMirror.is (rw c.instance-instance.ensures.value at c.no_message-in-XMirror.ensures)
