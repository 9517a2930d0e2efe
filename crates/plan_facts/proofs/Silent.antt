-- Nothing lies in the frames of a round in which no message is sent.
use Rattle.std.proofs.Common.{◌≡◌, ◌≢◌, ℕ, ◌<◌, ◌==◌, ◌&&◌, false, [], Contains, length, arith, inl, inr, refl}
use Rattle.std.proofs.lemmas.Bool.{and_right}
use Rattle.std.proofs.lemmas.Bool.Decides.{eqb_tells}
use Rattle.std.proofs.lemmas.Grind.{common_steps}
use Rattle.ttp_model.specs.declared.plan.Plan.{Plan}
use Rattle.ttp_model.specs.Instance.{Instance, source_of}
use Rattle.ttp_model.specs.Plans.{HasLengths, bytes_in, bytes_on, is_in_frame_on, load_on, round_of}
use Rattle.ttp_model.proofs.Channels.{on_at_most}
use Rattle.ttp_model.proofs.Totals.{total_none}
use Rattle.plan_facts.specs.Frames.{messages_on}
use Rattle.plan_facts.proofs.Filters.{filter_none}

module _ (i : Instance) (plan : Plan) (n r c : ℕ) where
  other_round : (m : ℕ) → round_of plan m ≢ r → (source_of i m == n && round_of plan m == r) ≡ false
  other_round m other = elim (eqb_tells (round_of plan m) r) [
    | inl same ↦ absurd (other same.1)
    | inr differ ↦ and_right (source_of i m == n) (round_of plan m == r) differ.0
  ]

  in_frame-other_round : (m : ℕ) → round_of plan m ≢ r → is_in_frame_on i plan n r c m ≡ false
  in_frame-other_round m other = rw (other_round m other) refl

  bytes-other_round : (m : ℕ) → round_of plan m ≢ r → bytes_on i plan n r c m ≡ 0
  bytes-other_round m other =
      let none : bytes_in i plan n r m ≡ 0 = rw (other_round m other) refl in
      omega (arith, on_at_most i plan n r c m, none)

  module _ (lengths : HasLengths i plan) (none : ¬ Contains plan.rounds r) where
    sent_elsewhere : (m : ℕ) → m < length i.messages → round_of plan m ≢ r
    sent_elsewhere m inside = λ same.
        let there : m < length plan.rounds = omega (arith, inside, lengths.rounds) in
        none (m, there, grind (arith, common_steps))

    pub in_no_frame : (m : ℕ) → m < length i.messages → is_in_frame_on i plan n r c m ≡ false
    in_no_frame m inside = in_frame-other_round m (sent_elsewhere m inside)

    pub load_on-none : load_on i plan n r c ≡ 0
    load_on-none = total_none (bytes_on i plan n r c) (length i.messages) (λ m inside. bytes-other_round m (sent_elsewhere m inside))

    pub messages_on-none : messages_on i plan n r c ≡ []
    messages_on-none = filter_none (is_in_frame_on i plan n r c) (length i.messages) in_no_frame
