-- What that a step asks for isn't known. Own profile.
use Rattle.ttp_model.specs.declared.step.Step.{Step}
use Rattle.ttp_model.specs.declared.step.Step.TheVariants.{EsRelease, EsLink, EsBefore, EsArrive, EsMessage, LoSend, LeOwn, LeLink, LeBefore, LeMessage, LeSend, HiArrive, OrdWindow, OrdTwin, UsSettled, XWindow, XRound, XCycle, XLoad, XFrame, XFrames, XChannel, XLate, XSilent, XMirror}
use Rattle.ttp_model.specs.Instance.{Instance}
use Rattle.tt_choice.specs.Choice.{Choice}
use Rattle.sought_plans.specs.Known.{Known}
use Rattle.certificate_reasons.specs.declared.load_lacks.LoadLack.{LoadLack}
use Rattle.certificate_reasons.specs.declared.move_lacks.MoveLack.{MoveLack}
use Rattle.certificate_reasons.specs.declared.order_lacks.OrderLack.{OrderLack}
use Rattle.certificate_reasons.specs.declared.premises.Lacking.{Lacking}
use Rattle.certificate_reasons.specs.declared.premises.Lacking.TheVariants.{Load, Move, Order, Time}
use Rattle.certificate_reasons.specs.declared.time_lacks.TimeLack.{TimeLack}
use Rattle.certificate_reasons.specs.LoadLacks.{IsFrameRoom, IsFramesRoom, IsHalvesRoom, IsLoadRoom}
use Rattle.certificate_reasons.specs.MoveLacks.{IsNotEarlier, IsNotMirrored, IsNotTurned}
use Rattle.certificate_reasons.specs.OrderLacks.{IsInTime, IsNotFirst, IsNotTwins, IsRingLack}
use Rattle.certificate_reasons.specs.TimeLacks.{IsNoRound, IsNoRoundTo, IsRoundLeft, IsWindowLeft}

-- of an order, of times and rounds, and so on
abbrev pub OfOrder : (OrderLack → Type 0) → Lacking → Type 0
OfOrder Is (Order x) = Is x
OfOrder Is _ = ⊥

abbrev pub OfTime : (TimeLack → Type 0) → Lacking → Type 0
OfTime Is (Time x) = Is x
OfTime Is _ = ⊥

abbrev pub OfLoad : (LoadLack → Type 0) → Lacking → Type 0
OfLoad Is (Load x) = Is x
OfLoad Is _ = ⊥

abbrev pub OfMove : (MoveLack → Type 0) → Lacking → Type 0
OfMove Is (Move x) = Is x
OfMove Is _ = ⊥

-- of a step; some ask for nothing
abbrev pub IsLacking : Instance → Choice → Known → Step → Lacking → Type 0
IsLacking i c f (EsRelease p) x = ⊥
IsLacking i c f (EsLink l) x = ⊥
IsLacking i c f (EsBefore p q) x = OfOrder (IsNotFirst i f p q) x
IsLacking i c f (EsArrive m q) x = ⊥
IsLacking i c f (EsMessage m q) x = ⊥
IsLacking i c f (LoSend m) x = ⊥
IsLacking i c f (LeOwn p) x = ⊥
IsLacking i c f (LeLink l) x = ⊥
IsLacking i c f (LeBefore p q) x = OfOrder (IsNotFirst i f p q) x
IsLacking i c f (LeMessage m q) x = ⊥
IsLacking i c f (LeSend m) x = OfTime (IsNoRound i f m) x
IsLacking i c f (HiArrive m q) x = ⊥
IsLacking i c f (OrdWindow p q) x = OfOrder (IsInTime i f p q) x
IsLacking i c f (OrdTwin p q) x = OfOrder (IsNotTwins i p q) x
IsLacking i c f (UsSettled p) x = OfTime (IsNoRoundTo i f p) x
IsLacking i c f (XWindow p) x = OfTime (IsWindowLeft i f p) x
IsLacking i c f (XRound m) x = OfTime (IsRoundLeft i f m) x
IsLacking i c f (XCycle ps) x = OfOrder (IsRingLack i f ps) x
IsLacking i c f (XLoad n a b) x = OfLoad (IsLoadRoom i f n a b) x
IsLacking i c f (XFrame m) x = OfLoad (IsFrameRoom i c m) x
IsLacking i c f (XFrames n a b) x = OfLoad (IsFramesRoom i c f n a b) x
IsLacking i c f (XChannel k n a b) x = OfLoad (IsHalvesRoom i c f k n a b) x
IsLacking i c f (XLate m r) x = OfMove (IsNotEarlier i c f m r) x
IsLacking i c f (XSilent u v) x = OfMove (IsNotTurned i c u v) x
IsLacking i c f (XMirror m) x = OfMove (IsNotMirrored i c f m) x
