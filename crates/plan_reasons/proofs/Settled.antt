-- The chain of a settled plan begins at a release: no process of it could start earlier, and no message be sent earlier.
use Rattle.std.proofs.Common.{◌≡◌, ℕ, ◌-◌, ◌<◌, ◌≤◌, None, length, arith, inl, inr, refl, sym, ◌∙◌}
use Rattle.ttp_model.specs.declared.plan.Plan.{Plan}
use Rattle.ttp_model.specs.Instance.{Instance}
use Rattle.ttp_model.specs.Rules.{IsInstance}
use Rattle.ttp_model.specs.Plans.{round_of, start_of}
use Rattle.ttp_model.specs.Moves.{IsSettled, SendsEarlier, StartsEarlier, sent, started}
use Rattle.tt_moves.specs.Earlier.{CanBeSent, CanStart}
use Rattle.tt_moves.proofs.EarlierRounds.{sent_valid}
use Rattle.tt_moves.proofs.EarlierStarts.{started_valid}
use Rattle.plan_facts.proofs.Starting.{can_start_later}
use Rattle.plan_reasons.specs.declared.plan_links.ChainLink.{ChainLink}
use Rattle.plan_reasons.specs.declared.plan_links.ChainLink.TheVariants.{Run, Sending}
use Rattle.plan_reasons.specs.declared.plan_links.RoundCause.TheVariants.{CouldGo, First, Full}
use Rattle.plan_reasons.specs.declared.runs.StartCause.TheVariants.{Arrival, Behind, CouldStart, Link, Release}
use Rattle.plan_reasons.specs.PlanChains.{IsLinkOf, StartsAtRelease, held_by}

module _ (i : Instance) (plan : Plan) (w : IsInstance i) (s : IsSettled i plan) where
  starts_no_earlier : (p time : ℕ) → p < length i.processes → time < start_of plan p → CanStart i plan p time → ⊥
  starts_no_earlier p time inside sooner can =
      let by : CanStart i plan p (start_of plan p - 1) = can_start_later i plan p time (start_of plan p - 1) can (omega (arith, sooner)) in
      let move : StartsEarlier i plan (started plan p (start_of plan p - 1)) = record {
        process = p;
        is_there = inside;
        above = omega (arith, sooner);
        moved_is = refl;
      } in
      s.rests (started plan p (start_of plan p - 1)) (inl (inl (inl move))) (started_valid i plan p (start_of plan p - 1) w s.valid inside (omega arith) by)

  goes_no_earlier : (m r : ℕ) → m < length i.messages → r < round_of plan m → CanBeSent i plan m r → ⊥
  goes_no_earlier m r inside sooner can =
      let move : SendsEarlier i plan (sent plan m r) = record { message = m; round = r; is_there = inside; earlier = sooner; moved_is = refl } in
      s.rests (sent plan m r) (inl (inl (inr move))) (sent_valid i plan m r s.valid inside (omega (arith, sooner)) can)

  pub released : (link : ChainLink) → IsLinkOf i plan link → held_by i link ≡ None → StartsAtRelease i link
  released (Run p from until Release) is none = is.for_cause ∙ sym is.starts
  released (Run p from until (Link l)) is none = absurd (cc)
  released (Run p from until (Behind q)) is none = absurd (cc)
  released (Run p from until (Arrival m)) is none = absurd (cc)
  released (Run p from until (CouldStart time)) is none = absurd (starts_no_earlier p time is.is_there is.for_cause.0 is.for_cause.1.can)
  released (Sending m from until First) is none = absurd (cc)
  released (Sending m from until (Full first)) is none = absurd (cc)
  released (Sending m from until (CouldGo r)) is none = goes_no_earlier m r is.is_there is.for_cause.0 is.for_cause.1.can
