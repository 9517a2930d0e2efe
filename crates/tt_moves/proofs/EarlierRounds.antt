-- A message that is sent in an earlier round, for which it is ready and which has room for it: the plan stays valid.
use Rattle.std.proofs.Common.{◌≡◌, ◌≢◌, ℕ, ◌+◌, ◌<◌, ◌≤◌, ◌==◌, ◌&&◌, if◌then◌else◌, true, false, length, slice_index, arith, inl, inr, refl, subst, ◌∙◌, sym, ap, get_or-set_other, get_or-set_same, length-set}
use Rattle.std.proofs.Math.Nat.{mul-le-mul_right}
use Rattle.std.proofs.lemmas.Bool.{cases_Bool, cases_eq, eq-eqb, false≢true, ne_eqb}
use Rattle.ttp_model.specs.declared.plan.Plan.{Plan}
use Rattle.ttp_model.specs.Instance.{Instance, message_at, source_of}
use Rattle.ttp_model.specs.Slots.{slot_start, slot_end, round_length}
use Rattle.ttp_model.specs.Plans.{IsValid, IsReady, HasArrivedEverywhere, FitsFrame, FitsOn, round_of, channel_of, load_on, bytes_in, bytes_on, is_on}
use Rattle.ttp_model.specs.Moves.{sent}
use Rattle.ttp_model.proofs.Totals.{total_le, total_one_place}
use Rattle.ttp_model.proofs.ValidPlans.{frames_fit_lem}
use Rattle.ttp_model.proofs.Channels.{all_on, none_on, on_at_most}
use Rattle.tt_moves.specs.Earlier.{CanBeSent}

-- what a message puts into a frame that it is in, and into another
there_all : (i : Instance) (plan : Plan) (n r m : ℕ) → source_of i m ≡ n → round_of plan m ≡ r → bytes_in i plan n r m ≡ (message_at i m).bytes
there_all i plan n r m node round = rw (eq-eqb _ _ node, eq-eqb _ _ round) refl

other_round : (i : Instance) (plan : Plan) (n r m : ℕ) → source_of i m ≡ n → round_of plan m ≢ r → bytes_in i plan n r m ≡ 0
other_round i plan n r m node differ = rw (eq-eqb _ _ node, ne_eqb _ _ differ) refl

other_node : (i : Instance) (plan : Plan) (n r m : ℕ) → source_of i m ≢ n → bytes_in i plan n r m ≡ 0
other_node i plan n r m differ = rw (ne_eqb _ _ differ) refl

module _ (i : Instance) (plan : Plan) (m r : ℕ) (v : IsValid i plan) (hm : m < length i.messages) where
  pub here : round_of (sent plan m r) m ≡ r
  here = get_or-set_same plan.rounds m r 0 (omega (arith, v.lengths.rounds, hm))

  pub there : (k : ℕ) → k ≢ m → round_of (sent plan m r) k ≡ round_of plan k
  there k other = get_or-set_other plan.rounds m k r 0 other

  -- what any other message puts into a frame stays the same
  bytes_same : (n s c k : ℕ) → k ≢ m → bytes_on i (sent plan m r) n s c k ≡ bytes_on i plan n s c k
  bytes_same n s c k other = ap (λ (t : ℕ). if is_on c (channel_of plan k) then (if source_of i k == n && t == s then (message_at i k).bytes else 0) else 0) (there k other)

  -- on each of its channels the frame that the message comes to has it besides
  pub comes : (c : ℕ) → is_on c (channel_of plan m) ≡ true → round_of plan m ≢ r → load_on i (sent plan m r) (source_of i m) r c ≡ load_on i plan (source_of i m) r c + (message_at i m).bytes
  comes c on differ =
      let n = source_of i m in
      let sums = total_one_place (bytes_on i (sent plan m r) n r c) (bytes_on i plan n r c) (length i.messages) m hm (λ k h other. bytes_same n r c k other) in
      omega (arith, sums, on_at_most i plan n r c m, other_round i plan n r m refl differ, all_on i (sent plan m r) n r c m on, there_all i (sent plan m r) n r m refl here)

  -- any other frame has no more than before, nor has that frame on another channel
  leaves : (n s c : ℕ) → (source_of i m ≡ n → r ≡ s → is_on c (channel_of plan m) ≡ true → ⊥) → load_on i (sent plan m r) n s c ≤ load_on i plan n s c
  leaves n s c apart = total_le (bytes_on i (sent plan m r) n s c) (bytes_on i plan n s c) (length i.messages) (λ k h. elim (cases_eq k m) [
    | inl same ↦ omega (arith, ap (bytes_on i (sent plan m r) n s c) same, none)
    | inr other ↦ omega (arith, bytes_same n s c k other)
  ])
    where
      none : bytes_on i (sent plan m r) n s c m ≡ 0
      none = elim (cases_Bool (is_on c (channel_of plan m))) [
        | inr off ↦ none_on i (sent plan m r) n s c m off
        | inl on ↦ elim (cases_eq (source_of i m) n) [
          | inl node ↦ omega (arith, on_at_most i (sent plan m r) n s c m, other_round i (sent plan m r) n s m node (λ is. apart node (sym here ∙ is) on))
          | inr differ ↦ omega (arith, on_at_most i (sent plan m r) n s c m, other_node i (sent plan m r) n s m differ)
        ]
      ]

  module _ (sooner : r ≤ round_of plan m) (can : CanBeSent i plan m r) where
    ready : (k : ℕ) → k < length i.messages → IsReady i (sent plan m r) k
    ready k h = elim (cases_eq k m) [
      | inl same ↦
          let now = ap (slot_start i.cluster plan.order plan.caps (source_of i m)) here in
          let is : IsReady i (sent plan m r) m = omega (arith, now, can.ready) in
          subst (λ (k : ℕ). IsReady i (sent plan m r) k) (sym same) is
      | inr other ↦ omega (arith, ap (slot_start i.cluster plan.order plan.caps (source_of i k)) (there k other), v.ready k h)
    ]

    arrived : (k : ℕ) → k < length i.messages → HasArrivedEverywhere i (sent plan m r) k
    arrived k h place lt = elim (cases_eq k m) [
      | inl same ↦
          let now = ap (slot_end i.cluster plan.order plan.caps (source_of i k)) (ap (round_of (sent plan m r)) same ∙ here) in
          let was = ap (slot_end i.cluster plan.order plan.caps (source_of i k)) (ap (round_of plan) same) in
          omega (arith, now, was, mul-le-mul_right (round_length i.cluster plan.caps) sooner, v.arrived k h place lt)
      | inr other ↦ omega (arith, ap (slot_end i.cluster plan.order plan.caps (source_of i k)) (there k other), v.arrived k h place lt)
    ]

    -- a frame that the message doesn't come to on this channel fits as before
    kept : (k c : ℕ) → c < i.cluster.channels → (source_of i m ≡ source_of i k → r ≡ round_of (sent plan m r) k → is_on c (channel_of plan m) ≡ true → ⊥)
        → load_on i (sent plan m r) (source_of i k) (round_of (sent plan m r) k) c ≤ slice_index plan.caps (source_of i k)
    kept k c within apart =
        let n = source_of i k in
        let s = round_of (sent plan m r) k in
        omega (arith, leaves n s c apart, frames_fit_lem i plan n s c v within)

    frames : (k : ℕ) → k < length i.messages → FitsFrame i (sent plan m r) k
    frames k h c within on = elim (cases_eq (source_of i m) (source_of i k)) [
      | inl node ↦ elim (cases_eq r (round_of (sent plan m r) k)) [
        | inl round ↦ elim (cases_Bool (is_on c (channel_of plan m))) [
          | inl held ↦ rw (← node, ← round) (can.fits c within held)
          | inr off ↦ kept k c within (λ _ _ is. false≢true (sym off ∙ is))
        ]
        | inr not_round ↦ kept k c within (λ _ is _. not_round is)
      ]
      | inr not_node ↦ kept k c within (λ is _ _. not_node is)
    ]

    pub sent_valid : IsValid i (sent plan m r)
    sent_valid = record {
      lengths = record {
        order = v.lengths.order;
        capacities = v.lengths.capacities;
        starts = v.lengths.starts;
        rounds = length-set plan.rounds m r ∙ v.lengths.rounds;
        channels = v.lengths.channels;
      };
      order = v.order;
      capacities = v.capacities;
      released = v.released;
      in_time = v.in_time;
      apart = v.apart;
      links = v.links;
      ready = ready;
      arrived = arrived;
      frames = frames;
      on_own = v.on_own;
    }
