-- Of each row of the table what it asks for; some rows ask for nothing.
use Rattle.std.proofs.Common.{inl, inr}
use Rattle.certificate_reasons.proofs.premises.lacking_of.Goals as goal

pub not_first-requires : goal.not_first-requires
not_first-requires c = rw c.in-EsBefore.is at c.requires.lacks

pub returns-in-EsBefore : goal.returns-in-EsBefore
returns-in-EsBefore c = rw c.in-EsBefore.is c.not_first.ensures

pub not_first-requires-in-LeBefore : goal.not_first-requires-in-LeBefore
not_first-requires-in-LeBefore c = rw c.in-LeBefore.is at c.requires.lacks

pub returns-in-LeBefore : goal.returns-in-LeBefore
returns-in-LeBefore c = rw c.in-LeBefore.is c.not_first-in-LeBefore.ensures

pub no_round-requires-clause-inside : goal.no_round-requires-clause-inside
no_round-requires-clause-inside c = rw c.in-LeSend.is at c.requires.there

pub no_round-requires-clause-lacks : goal.no_round-requires-clause-lacks
no_round-requires-clause-lacks c = rw c.in-LeSend.is at c.requires.lacks

pub returns-in-LeSend : goal.returns-in-LeSend
returns-in-LeSend c = rw c.in-LeSend.is c.no_round.ensures

pub in_time-requires-clause-first : goal.in_time-requires-clause-first
in_time-requires-clause-first c = (rw c.in-OrdWindow.is at c.requires.there).first

pub in_time-requires-clause-second : goal.in_time-requires-clause-second
in_time-requires-clause-second c = (rw c.in-OrdWindow.is at c.requires.there).second

pub in_time-requires-clause-lacks : goal.in_time-requires-clause-lacks
in_time-requires-clause-lacks c = rw c.in-OrdWindow.is at c.requires.lacks

pub returns-in-OrdWindow : goal.returns-in-OrdWindow
returns-in-OrdWindow c = rw c.in-OrdWindow.is c.in_time.ensures

pub not_twins-requires : goal.not_twins-requires
not_twins-requires c = rw c.in-OrdTwin.is at c.requires.lacks

pub returns-in-OrdTwin : goal.returns-in-OrdTwin
returns-in-OrdTwin c = rw c.in-OrdTwin.is c.not_twins.ensures

pub no_round_to-requires : goal.no_round_to-requires
no_round_to-requires c = rw c.in-UsSettled.is at c.requires.lacks

pub returns-in-UsSettled : goal.returns-in-UsSettled
returns-in-UsSettled c = rw c.in-UsSettled.is c.no_round_to.ensures

pub window_left-requires-clause-inside : goal.window_left-requires-clause-inside
window_left-requires-clause-inside c = rw c.in-XWindow.is at c.requires.there

pub window_left-requires-clause-lacks : goal.window_left-requires-clause-lacks
window_left-requires-clause-lacks c = rw c.in-XWindow.is at c.requires.lacks

pub returns-in-XWindow : goal.returns-in-XWindow
returns-in-XWindow c = rw c.in-XWindow.is c.window_left.ensures

pub round_left-requires-clause-inside : goal.round_left-requires-clause-inside
round_left-requires-clause-inside c = rw c.in-XRound.is at c.requires.there

pub round_left-requires-clause-lacks : goal.round_left-requires-clause-lacks
round_left-requires-clause-lacks c = rw c.in-XRound.is at c.requires.lacks

pub returns-in-XRound : goal.returns-in-XRound
returns-in-XRound c = rw c.in-XRound.is c.round_left.ensures

pub no_ring-requires : goal.no_ring-requires
no_ring-requires c = rw c.in-XCycle.is at c.requires.lacks

pub returns-in-XCycle : goal.returns-in-XCycle
returns-in-XCycle c = rw c.in-XCycle.is c.no_ring.ensures

pub load_room-requires-clause-inside : goal.load_room-requires-clause-inside
load_room-requires-clause-inside c = rw c.in-XLoad.is at c.requires.there

pub load_room-requires-clause-lacks : goal.load_room-requires-clause-lacks
load_room-requires-clause-lacks c = rw c.in-XLoad.is at c.requires.lacks

pub returns-in-XLoad : goal.returns-in-XLoad
returns-in-XLoad c = rw c.in-XLoad.is c.load_room.ensures

pub frame_room-requires-clause-inside : goal.frame_room-requires-clause-inside
frame_room-requires-clause-inside c = rw c.in-XFrame.is at c.requires.there

pub frame_room-requires-clause-lacks : goal.frame_room-requires-clause-lacks
frame_room-requires-clause-lacks c = rw c.in-XFrame.is at c.requires.lacks

pub returns-in-XFrame : goal.returns-in-XFrame
returns-in-XFrame c = rw c.in-XFrame.is c.frame_room.ensures

pub frames_room-requires-clause-inside : goal.frames_room-requires-clause-inside
frames_room-requires-clause-inside c = rw c.in-XFrames.is at c.requires.there

pub frames_room-requires-clause-lacks : goal.frames_room-requires-clause-lacks
frames_room-requires-clause-lacks c = rw c.in-XFrames.is at c.requires.lacks

pub returns-in-XFrames : goal.returns-in-XFrames
returns-in-XFrames c = rw c.in-XFrames.is c.frames_room.ensures

pub halves_room-requires-clause-inside : goal.halves_room-requires-clause-inside
halves_room-requires-clause-inside c = (rw c.in-XChannel.is at c.requires.there).0

pub halves_room-requires-clause-lacks : goal.halves_room-requires-clause-lacks
halves_room-requires-clause-lacks c = rw c.in-XChannel.is at c.requires.lacks

pub returns-in-XChannel : goal.returns-in-XChannel
returns-in-XChannel c = rw c.in-XChannel.is c.halves_room.ensures

pub not_earlier-requires-clause-inside : goal.not_earlier-requires-clause-inside
not_earlier-requires-clause-inside c = rw c.in-XLate.is at c.requires.there

pub not_earlier-requires-clause-lacks : goal.not_earlier-requires-clause-lacks
not_earlier-requires-clause-lacks c = rw c.in-XLate.is at c.requires.lacks

pub returns-in-XLate : goal.returns-in-XLate
returns-in-XLate c = rw c.in-XLate.is c.not_earlier.ensures

pub not_turned-requires : goal.not_turned-requires
not_turned-requires c = rw c.in-XSilent.is at c.requires.lacks

pub returns-in-XSilent : goal.returns-in-XSilent
returns-in-XSilent c = rw c.in-XSilent.is c.not_turned.ensures

pub not_mirrored-requires : goal.not_mirrored-requires
not_mirrored-requires c = rw c.in-XMirror.is at c.requires.lacks

pub returns-in-XMirror : goal.returns-in-XMirror
returns-in-XMirror c = rw c.in-XMirror.is c.not_mirrored.ensures

pub unreachable-requires : goal.unreachable-requires
unreachable-requires c = elim c.in-EsRelease.is [
  | inl release ↦ (rw release.1 at c.requires.lacks) tt
  | inr (inl link) ↦ (rw link.1 at c.requires.lacks) tt
  | inr (inr (inl arrive)) ↦ (rw arrive.2 at c.requires.lacks) tt
  | inr (inr (inr (inl message))) ↦ (rw message.2 at c.requires.lacks) tt
  | inr (inr (inr (inr (inl send)))) ↦ (rw send.1 at c.requires.lacks) tt
  | inr (inr (inr (inr (inr (inl own))))) ↦ (rw own.1 at c.requires.lacks) tt
  | inr (inr (inr (inr (inr (inr (inl waits)))))) ↦ (rw waits.1 at c.requires.lacks) tt
  | inr (inr (inr (inr (inr (inr (inr (inl sends))))))) ↦ (rw sends.2 at c.requires.lacks) tt
  | inr (inr (inr (inr (inr (inr (inr (inr hears))))))) ↦ (rw hears.2 at c.requires.lacks) tt
]
