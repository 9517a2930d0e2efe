-- A turned frame whose channels are exchanged: the plan stays valid.
use Rattle.std.proofs.Common.{◌≡◌, ◌≢◌, ℕ, zero, suc, ◌<◌, ◌≤◌, ◌==◌, if◌then◌else◌, Bool, true, false, length, slice_index, arith, inl, inr, refl, ap, ap₂, sym, ◌∙◌}
use Rattle.std.proofs.lemmas.Bool.{cases_Bool, cases_eq, and_parts, eqb-true, ne_eqb}
use Rattle.std.proofs.lemmas.List.FromFn.{length-map-range_with_len}
use Rattle.ttp_model.specs.declared.error.Place.TheVariants.{AtCluster}
use Rattle.ttp_model.specs.declared.plan.Plan.{Plan}
use Rattle.ttp_model.specs.Instance.{Instance, message_at, source_of}
use Rattle.ttp_model.specs.Rules.{IsInstance}
use Rattle.ttp_model.specs.Plans.{IsValid, MayBeOn, bytes_in, bytes_on, channel_of, is_in_frame, is_on, load_on, round_of}
use Rattle.ttp_model.specs.Moves.{leads_turned, other_channel, turned, turned_channel}
use Rattle.ttp_model.proofs.Totals.{total_same}
use Rattle.ttp_model.proofs.ValidPlans.{frames_fit_lem}
use Rattle.ttp_model.proofs.TurnedFrames.{channel_elsewhere, channel_there, is_second, other_of_more}

-- an exchanged number is on a channel where it was on the other one
on_other : (c number : ℕ) → c < 2 → is_on c (other_channel number) ≡ is_on (other_channel c) number
on_other c number below = elim (cases_eq number 0) [
  | inl first ↦ rw first (at_first c below)
  | inr not_first ↦ elim (cases_eq number 1) [
    | inl second ↦ rw second (at_second c below)
    | inr not_second ↦ ap (is_on c) (other_of_more number not_first not_second) ∙ at_more c below not_first not_second
  ]
]
  where
    at_first : (c : ℕ) → c < 2 → is_on c (other_channel 0) ≡ is_on (other_channel c) 0
    at_first zero below = refl
    at_first (suc zero) below = refl
    at_first (suc (suc c)) below = absurd (omega (arith, below))

    at_second : (c : ℕ) → c < 2 → is_on c (other_channel 1) ≡ is_on (other_channel c) 1
    at_second zero below = refl
    at_second (suc zero) below = refl
    at_second (suc (suc c)) below = absurd (omega (arith, below))

    at_more : (c : ℕ) → c < 2 → number ≢ 0 → number ≢ 1 → is_on c number ≡ is_on (other_channel c) number
    at_more zero below not_first not_second = rw (ne_eqb number 0 not_first, ne_eqb number 1 not_second) refl
    at_more (suc zero) below not_first not_second = rw (ne_eqb number 0 not_first, ne_eqb number 1 not_second) refl
    at_more (suc (suc c)) below not_first not_second = absurd (omega (arith, below))

other_small : (c n : ℕ) → c < n → 2 ≤ n → other_channel c < n
other_small c n below two = elim (cases_eq c 0) [
  | inl first ↦ omega (arith, ap other_channel first, two)
  | inr not_first ↦ elim (cases_eq c 1) [ inl second ↦ omega (arith, ap other_channel second, two) | inr not_second ↦ omega (arith, other_of_more c not_first not_second, below) ]
]

none_either_way : (one two : Bool) (x : ℕ) → x ≡ 0 → (if one then x else 0) ≡ (if two then x else 0)
none_either_way true true x none = refl
none_either_way true false x none = none
none_either_way false true x none = sym none
none_either_way false false x none = refl

module _ (i : Instance) (plan : Plan) (m : ℕ) (w : IsInstance i) (v : IsValid i plan) (hm : m < length i.messages) (leads : leads_turned i plan m ≡ true) where
  two : 2 ≤ i.cluster.channels
  two = elim (cases_eq i.cluster.channels 1) [
    | inl alone ↦ absurd (omega (arith, is_second i plan m hm leads, (v.on_own m hm).alone alone))
    | inr other ↦ omega (arith, other, (w.ranges AtCluster).channels_least)
  ]

  -- a frame is the one that is turned, or has no message of it
  own_load : (n r c : ℕ) → source_of i m ≡ n → round_of plan m ≡ r → c < 2 → load_on i (turned i plan m) n r c ≡ load_on i plan n r (other_channel c)
  own_load n r c node round below = total_same (bytes_on i (turned i plan m) n r c) (bytes_on i plan n r (other_channel c)) (length i.messages) (λ k inside. elim (cases_Bool (is_in_frame i plan n r k)) [
    | inl there ↦
        let here : is_in_frame i plan (source_of i m) (round_of plan m) k ≡ true = ap₂ (λ a b. is_in_frame i plan a b k) node round ∙ there in
        let on : is_on c (channel_of (turned i plan m) k) ≡ is_on (other_channel c) (channel_of plan k) = ap (is_on c) (channel_there i plan m k inside here) ∙ on_other c (channel_of plan k) below in
        ap (λ (b : Bool). if b then bytes_in i plan n r k else 0) on
    | inr elsewhere ↦
        let none : bytes_in i plan n r k ≡ 0 = ap (λ (b : Bool). if b then (message_at i k).bytes else 0) elsewhere in
        none_either_way (is_on c (channel_of (turned i plan m) k)) (is_on (other_channel c) (channel_of plan k)) (bytes_in i plan n r k) none
  ])

  other_load : (n r c : ℕ) → ((source_of i m ≡ n) → (round_of plan m ≡ r) → ⊥) → load_on i (turned i plan m) n r c ≡ load_on i plan n r c
  other_load n r c apart = total_same (bytes_on i (turned i plan m) n r c) (bytes_on i plan n r c) (length i.messages) (λ k inside. elim (cases_Bool (is_in_frame i plan n r k)) [
    | inl there ↦
        let both = and_parts (source_of i k == n) (round_of plan k == r) there in
        elim (cases_Bool (is_in_frame i plan (source_of i m) (round_of plan m) k)) [
          | inl also ↦
              let own = and_parts (source_of i k == source_of i m) (round_of plan k == round_of plan m) also in
              absurd (apart (sym (eqb-true _ _ own.0) ∙ eqb-true _ _ both.0) (sym (eqb-true _ _ own.1) ∙ eqb-true _ _ both.1))
          | inr elsewhere ↦ ap (λ (b : ℕ). if is_on c b then bytes_in i plan n r k else 0) (channel_elsewhere i plan m k inside elsewhere)
        ]
    | inr outside ↦
        let none : bytes_in i plan n r k ≡ 0 = ap (λ (b : Bool). if b then (message_at i k).bytes else 0) outside in
        none_either_way (is_on c (channel_of (turned i plan m) k)) (is_on c (channel_of plan k)) (bytes_in i plan n r k) none
  ])

  -- each half of each frame holds what is in it
  fits : (n r c : ℕ) → c < i.cluster.channels → load_on i (turned i plan m) n r c ≤ slice_index plan.caps n
  fits n r c within = elim (cases_eq (source_of i m) n) [
    | inr not_node ↦ omega (arith, other_load n r c (λ is _. not_node is), frames_fit_lem i plan n r c v within)
    | inl node ↦ elim (cases_eq (round_of plan m) r) [
      | inr not_round ↦ omega (arith, other_load n r c (λ _ is. not_round is), frames_fit_lem i plan n r c v within)
      | inl round ↦
          let few = (w.ranges AtCluster).channels in
          omega (arith, own_load n r c node round (omega (arith, within, few)), frames_fit_lem i plan n r (other_channel c) v (other_small c i.cluster.channels within two))
    ]
  ]

  -- each message is on a channel that it may be on
  on_own : (k : ℕ) → k < length i.messages → MayBeOn i k (channel_of (turned i plan m) k)
  on_own k inside = elim (cases_Bool (is_in_frame i plan (source_of i m) (round_of plan m) k)) [
    | inr elsewhere ↦ rw (channel_elsewhere i plan m k inside elsewhere) (v.on_own k inside)
    | inl there ↦ rw (channel_there i plan m k inside there) (record {
      known = omega (arith, other_small (channel_of plan k) 3 (omega (arith, (v.on_own k inside).known)) (omega arith));
      alone = λ alone. absurd (omega (arith, alone, two));
      both = λ is. ap other_channel ((v.on_own k inside).both is);
    })
  ]

  pub turned_valid : IsValid i (turned i plan m)
  turned_valid = record {
    lengths = record {
      order = v.lengths.order;
      capacities = v.lengths.capacities;
      starts = v.lengths.starts;
      rounds = v.lengths.rounds;
      channels = length-map-range_with_len (turned_channel i plan m) 0 (length i.messages);
    };
    order = v.order;
    capacities = v.capacities;
    released = v.released;
    in_time = v.in_time;
    apart = v.apart;
    links = v.links;
    ready = v.ready;
    arrived = v.arrived;
    frames = λ k inside c within on. fits (source_of i k) (round_of plan k) c within;
    on_own = on_own;
  }
