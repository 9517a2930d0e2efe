-- What a step says: why it concludes what it does, and what is known after it of the fact that it is about. Own profile.
use Rattle.std.specs.Prelude.{ℕ}
use Rattle.ttp_model.specs.declared.step.Step.{Step}
use Rattle.ttp_model.specs.declared.step.Step.TheVariants.{EsRelease, EsLink, EsBefore, EsArrive, EsMessage, LoSend, LeOwn, LeLink, LeBefore, LeMessage, LeSend, HiArrive, OrdWindow, OrdTwin, UsSettled, XWindow, XRound, XCycle, XLoad, XFrame, XFrames, XChannel, XLate, XSilent, XMirror}
use Rattle.ttp_model.specs.Instance.{Instance}
use Rattle.tt_choice.specs.Choice.{Choice}
use Rattle.sought_plans.specs.Known.{Known}
use Rattle.tt_infer.specs.Targets.{known_value, target}
use Rattle.certificate_reasons.specs.declared.closers.CloserReason.{CloserReason}
use Rattle.certificate_reasons.specs.declared.dominance.DominanceReason.{DominanceReason}
use Rattle.certificate_reasons.specs.declared.ends.LatestEnd.{LatestEnd}
use Rattle.certificate_reasons.specs.declared.loads.LoadReason.{LoadReason}
use Rattle.certificate_reasons.specs.declared.orders.OrderReason.{OrderReason}
use Rattle.certificate_reasons.specs.declared.rounds.RoundReason.{RoundReason}
use Rattle.certificate_reasons.specs.declared.starts.EarliestStart.{EarliestStart}
use Rattle.certificate_reasons.specs.declared.steps.StepReason.{StepReason}
use Rattle.certificate_reasons.specs.declared.steps.StepReason.TheVariants.{Closer, Dominance, End, Load, Order, Round, Start}
use Rattle.certificate_reasons.specs.declared.steps.ToldStep.{ToldStep}
use Rattle.certificate_reasons.specs.Closers.{IsCycle, IsRounds, IsWindow}
use Rattle.certificate_reasons.specs.Conclusions.{IsConclusion}
use Rattle.certificate_reasons.specs.Dominance.{IsLate, IsMirror, IsSettled, IsSilent}
use Rattle.certificate_reasons.specs.Ends.{IsBeforeEnd, IsLinkEnd, IsMessageEnd, IsOwnEnd, IsSendEnd}
use Rattle.certificate_reasons.specs.Loads.{IsFrame, IsFrames, IsHalves, IsLoad}
use Rattle.certificate_reasons.specs.Orders.{IsTwinOrder, IsWindowOrder}
use Rattle.certificate_reasons.specs.Rounds.{IsArriveRound, IsSendRound}
use Rattle.certificate_reasons.specs.Starts.{IsArrivalStart, IsBehindStart, IsLinkStart, IsMessageStart, IsRelease}

-- a reason of a start, of an end, and so on
abbrev pub OfStart : (EarliestStart → Type 0) → StepReason → Type 0
OfStart Is (Start r) = Is r
OfStart Is _ = ⊥

abbrev pub OfEnd : (LatestEnd → Type 0) → StepReason → Type 0
OfEnd Is (End r) = Is r
OfEnd Is _ = ⊥

abbrev pub OfRound : (RoundReason → Type 0) → StepReason → Type 0
OfRound Is (Round r) = Is r
OfRound Is _ = ⊥

abbrev pub OfOrder : (OrderReason → Type 0) → StepReason → Type 0
OfOrder Is (Order r) = Is r
OfOrder Is _ = ⊥

abbrev pub OfCloser : (CloserReason → Type 0) → StepReason → Type 0
OfCloser Is (Closer r) = Is r
OfCloser Is _ = ⊥

abbrev pub OfLoad : (LoadReason → Type 0) → StepReason → Type 0
OfLoad Is (Load r) = Is r
OfLoad Is _ = ⊥

abbrev pub OfDominance : (DominanceReason → Type 0) → StepReason → Type 0
OfDominance Is (Dominance r) = Is r
OfDominance Is _ = ⊥

-- why it concludes what it does, by what is known before it
abbrev pub IsStepReason : Instance → Choice → ℕ → Known → Step → StepReason → Type 0
IsStepReason i c goal f (EsRelease p) r = OfStart (IsRelease i p) r
IsStepReason i c goal f (EsLink l) r = OfStart (IsLinkStart i f l) r
IsStepReason i c goal f (EsBefore p q) r = OfStart (IsBehindStart i f p q) r
IsStepReason i c goal f (EsArrive m q) r = OfStart (IsArrivalStart i c f m) r
IsStepReason i c goal f (EsMessage m q) r = OfStart (IsMessageStart i c f m) r
IsStepReason i c goal f (LoSend m) r = OfRound (IsSendRound i f m) r
IsStepReason i c goal f (LeOwn p) r = OfEnd (IsOwnEnd i goal p) r
IsStepReason i c goal f (LeLink l) r = OfEnd (IsLinkEnd i f l) r
IsStepReason i c goal f (LeBefore p q) r = OfEnd (IsBeforeEnd i f p q) r
IsStepReason i c goal f (LeMessage m q) r = OfEnd (IsMessageEnd i c f m q) r
IsStepReason i c goal f (LeSend m) r = OfEnd (IsSendEnd i c f m) r
IsStepReason i c goal f (HiArrive m q) r = OfRound (IsArriveRound i f m q) r
IsStepReason i c goal f (OrdWindow p q) r = OfOrder (IsWindowOrder i f p q) r
IsStepReason i c goal f (OrdTwin p q) r = OfOrder (IsTwinOrder i p q) r
IsStepReason i c goal f (UsSettled p) r = OfDominance (IsSettled i p) r
IsStepReason i c goal f (XWindow p) r = OfCloser (IsWindow i f p) r
IsStepReason i c goal f (XRound m) r = OfCloser (IsRounds i f m) r
IsStepReason i c goal f (XCycle ps) r = OfCloser (IsCycle i ps) r
IsStepReason i c goal f (XLoad n a b) r = OfLoad (IsLoad i n a b) r
IsStepReason i c goal f (XFrame m) r = OfLoad (IsFrame i c m) r
IsStepReason i c goal f (XFrames n a b) r = OfLoad (IsFrames i c n a b) r
IsStepReason i c goal f (XChannel k n a b) r = OfLoad (IsHalves i c k n a b) r
IsStepReason i c goal f (XLate m r) x = OfDominance (IsLate i c f m r) x
IsStepReason i c goal f (XSilent u v) r = OfDominance (IsSilent i u v) r
IsStepReason i c goal f (XMirror m) r = OfDominance (IsMirror i m) r

-- all of it, from what is known before it to what is known after it
pub record IsToldStep (i : Instance) (c : Choice) (goal : ℕ) (f g : Known) (step : Step) (x : ToldStep) : Type 0 where
  pub reason_is : IsStepReason i c goal f step x.reason
  pub conclusion_is : IsConclusion i (target i step) (known_value f (target i step)) (known_value g (target i step)) x.conclusion
