-- A message that could be sent in an earlier round is, in a settled plan.
use Rattle.std.proofs.Common.{◌≡◌, ℕ, ◌<◌, ◌≤◌, ◌==◌, ◌&&◌, true, length, slice_index, arith, inl, inr, refl, ◌∙◌, sym}
use Rattle.std.proofs.lemmas.Bool.{cases_eq, and_parts, and_from, or_left, or_right, le-leb, lt-ltb, eqb-true, eq-eqb}
use Rattle.ttp_model.specs.declared.plan.Plan.{Plan}
use Rattle.ttp_model.specs.declared.step.Step.TheVariants.{XLate}
use Rattle.ttp_model.specs.Instance.{Instance, message_at, source_of}
use Rattle.ttp_model.specs.Rules.{IsInstance}
use Rattle.ttp_model.specs.Plans.{IsValid, round_of, load_on, bytes_in, bytes_on}
use Rattle.ttp_model.specs.Moves.{IsSettled, SendsEarlier, sent}
use Rattle.ttp_model.proofs.Totals.{total_le}
use Rattle.ttp_model.proofs.Channels.{on_at_most}
use Rattle.tt_moves.specs.Earlier.{CanBeSent}
use Rattle.tt_moves.proofs.EarlierRounds.{sent_valid, there}
use Rattle.tt_choice.specs.Choice.{Choice, IsChoice, IsIn}
use Rattle.tt_choice.proofs.Bounds.{start_between, capacity_between}
use Rattle.sought_plans.specs.Known.{Known, IsSought, AreTrueOf, lo_of, top_of}
use Rattle.sought_plans.specs.Premises.{sender_of}
use Rattle.sought_plans.specs.Dominance.{may_be_beside, bytes_beside, CouldBeEarlier}
use Rattle.tt_infer.proofs.Soundness.{IsSoundFor}
use Rattle.tt_infer.proofs.Selected.{selected_le}
use Rattle.tt_infer.proofs.Sending.{agrees, source_is, sender_is}

-- what a test of a node and a round tells
frame_tells : (a n b r : ℕ) → ((a == n) && (b == r)) ≡ true → (a ≡ n) × (b ≡ r)
frame_tells a n b r h = let both = and_parts (a == n) (b == r) h in (eqb-true a n both.0, eqb-true b r both.1)

-- On each channel the frame that the message comes to holds it: what may be beside it is counted whatever channel it is on.
new_frame : (i : Instance) (c : Choice) (plan : Plan) (f : Known) (m r channel : ℕ) → IsInstance i → IsValid i plan → IsIn i c plan → AreTrueOf i plan f → m < length i.messages
    → CouldBeEarlier i c f m r → load_on i (sent plan m r) (source_of i m) r channel ≤ slice_index plan.caps (source_of i m)
new_frame i c plan f m r channel w v inside t hm could =
    let on_it = total_le (bytes_on i (sent plan m r) (source_of i m) r channel) (bytes_in i (sent plan m r) (source_of i m) r) (length i.messages)
    (λ k h. on_at_most i (sent plan m r) (source_of i m) r channel k) in
    let less = total_le (bytes_in i (sent plan m r) (source_of i m) r) (bytes_beside i f m r) (length i.messages) (λ k h.
    selected_le ((source_of i k == source_of i m) && (round_of (sent plan m r) k == r)) (may_be_beside i f m r k) (message_at i k).bytes (λ is.
    let tells = frame_tells (source_of i k) (source_of i m) (round_of (sent plan m r) k) r is in
    elim (cases_eq k m) [
      | inl same ↦ or_left _ _ (eq-eqb _ _ same)
      | inr other ↦
          let stays : round_of plan k ≡ r = sym (there i plan m r v hm k other) ∙ tells.1 in
          let low : lo_of f k ≤ r = omega (arith, t.lo k h, stays) in
          let high : r < top_of f k = omega (arith, t.top k h, stays) in
          or_right _ _ (and_from _ _ (eq-eqb _ _ tells.0) (and_from _ _ (le-leb _ _ low) (lt-ltb _ _ high)))
    ])) in
    let fits = (capacity_between i c plan.order plan.caps (source_of i m) w (agrees i c plan v inside) (source_is i m w hm)).0 in
    omega (arith, on_it, less, fits, could.room)

none_is_late : (i : Instance) (c : Choice) (plan : Plan) (f : Known) (m r : ℕ) → IsInstance i → IsChoice i c → IsSettled i plan → IsIn i c plan → AreTrueOf i plan f → m < length i.messages → CouldBeEarlier i c f m r → ⊥
none_is_late i c plan f m r w ok settled inside t hm could =
    let v = settled.valid in
    let from = (start_between i c plan.order plan.caps (source_of i m) r w ok (agrees i c plan v inside) (source_is i m w hm)).0 in
    let can : CanBeSent i plan m r = record {
      ready = omega (arith, from, could.ready, t.le (sender_of i m) (sender_is i m w hm));
      fits = λ channel within on. new_frame i c plan f m r channel w v inside t hm could;
    } in
    let sooner : r < round_of plan m = omega (arith, could.earlier, t.lo m hm) in
    let move : SendsEarlier i plan (sent plan m r) = record { message = m; round = r; is_there = hm; earlier = sooner; moved_is = refl } in
    settled.rests (sent plan m r) (inl (inl (inr move))) (sent_valid i plan m r v hm (omega (arith, sooner)) can)

pub x_late_sound : (i : Instance) (c : Choice) (goal : ℕ) (f : Known) (plan : Plan) (m r : ℕ) → IsInstance i → IsChoice i c → IsSought i c goal plan → AreTrueOf i plan f → IsSoundFor i c goal f plan (XLate m r)
x_late_sound i c goal f plan m r w ok sought t k there premise is =
    absurd (none_is_late i c plan f m r w ok sought.settled sought.chosen t there premise)
