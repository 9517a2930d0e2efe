-- The windows of all cycles: frames pass them, and no two are open together.
use Rattle.std.proofs.Common.{ℕ, arith, inl, inr}
use Rattle.ttp_model.specs.declared.plan.Plan.{Plan}
use Rattle.ttp_model.specs.Instance.{Instance}
use Rattle.ttp_model.specs.Rules.{IsInstance}
use Rattle.guardian_windows.specs.Clocks.{GuardianClock, NodeClock}
use Rattle.plan_cycles.specs.Repeating.{AdmitAllFrames, AreNeverOpenAtOnce, AreSlotsApart}

module _ (period rounds : ℕ) (i : Instance) (plan : Plan) (w : IsInstance i) where
  pub frames_pass : AdmitAllFrames period rounds i plan
  frames_pass reading s close there sending =
      let ahead = close (NodeClock s.node) (GuardianClock s.node) in
      let behind = close (GuardianClock s.node) (NodeClock s.node) in
      (omega (arith, sending.begun, ahead, w.lead), omega (arith, sending.not_over, behind))

  -- between two windows lies the precision
  pub never_at_once : AreSlotsApart period rounds i plan → AreNeverOpenAtOnce period rounds i plan
  never_at_once apart reading s t close here there differ both = elim (apart s t here there differ) [
    | inl first ↦ omega (arith, first, both.0.1, both.1.0, close (GuardianClock t.node) (GuardianClock s.node), w.lead, w.trail)
    | inr second ↦ omega (arith, second, both.1.1, both.0.0, close (GuardianClock s.node) (GuardianClock t.node), w.lead, w.trail)
  ]
