-- A frame has no byte just where no message is in it, since each message has one or more.
use Rattle.std.proofs.Common.{◌≡◌, ℕ, zero, suc, ◌<◌, ◌≤◌, ◌==◌, ◌&&◌, if◌then◌else◌, Bool, true, false, [], ◌∷◌, ◌++◌, filter, length, ap, arith, refl, inl, inr, length-append}
use Rattle.std.specs.List.{range_with_len}
use Rattle.std.proofs.lemmas.List.{append-nil}
use Rattle.std.proofs.lemmas.Bool.{cases_Bool, false≢true}
use Rattle.ttp_model.specs.declared.plan.Plan.{Plan}
use Rattle.ttp_model.specs.Instance.{Instance, message_at, source_of}
use Rattle.ttp_model.specs.Plans.{bytes_on, channel_of, is_in_frame_on, is_on, round_of}
use Rattle.ttp_model.specs.Totals.{total}
use Rattle.ttp_model.proofs.Totals.{total_more}
use Rattle.plan_facts.proofs.Filters.{filter_more}

-- what is asked for in two steps is there where both hold
both-hold : (sent on : Bool) (x : ℕ) → (sent && on) ≡ true → (if on then (if sent then x else 0) else 0) ≡ x
both-hold true true x is = refl
both-hold true false x is = absurd (false≢true is)
both-hold false on x is = absurd (false≢true is)

-- and else not
one-fails : (sent on : Bool) (x : ℕ) → (sent && on) ≡ false → (if on then (if sent then x else 0) else 0) ≡ 0
one-fails true true x is = absurd (let other : true ≡ false = is in cc)
one-fails true false x is = refl
one-fails false true x is = refl
one-fails false false x is = refl

module _ (i : Instance) (plan : Plan) (n r c : ℕ) where
  bytes-here : (m : ℕ) → is_in_frame_on i plan n r c m ≡ true → bytes_on i plan n r c m ≡ (message_at i m).bytes
  bytes-here m is = both-hold (source_of i m == n && round_of plan m == r) (is_on c (channel_of plan m)) (message_at i m).bytes is

  bytes-elsewhere : (m : ℕ) → is_in_frame_on i plan n r c m ≡ false → bytes_on i plan n r c m ≡ 0
  bytes-elsewhere m is = one-fails (source_of i m == n && round_of plan m == r) (is_on c (channel_of plan m)) (message_at i m).bytes is

  pub in-frame : (m : ℕ) → 0 < bytes_on i plan n r c m → is_in_frame_on i plan n r c m ≡ true
  in-frame m some = elim (cases_Bool (is_in_frame_on i plan n r c m)) [
    | inl here ↦ here
    | inr elsewhere ↦ absurd (omega (arith, some, bytes-elsewhere m elsewhere))
  ]

  pub messages-of_no_bytes : ((m : ℕ) → m < length i.messages → 1 ≤ (message_at i m).bytes) → (count : ℕ) → count ≤ length i.messages
      → total (bytes_on i plan n r c) count ≡ 0 → filter (is_in_frame_on i plan n r c) (range_with_len 0 count) ≡ []
  messages-of_no_bytes some zero within none = refl
  messages-of_no_bytes some (suc m) within none = elim (cases_Bool (is_in_frame_on i plan n r c m)) [
    | inl here ↦ absurd (omega (arith, none, total_more (bytes_on i plan n r c) m, bytes-here m here, some m (omega arith)))
    | inr elsewhere ↦
        let before : total (bytes_on i plan n r c) m ≡ 0 = omega (arith, none, total_more (bytes_on i plan n r c) m) in
        rw (filter_more (is_in_frame_on i plan n r c) m, messages-of_no_bytes some m (omega arith) before, elsewhere) refl
  ]

  pub bytes-of_no_messages : (count : ℕ) → filter (is_in_frame_on i plan n r c) (range_with_len 0 count) ≡ [] → total (bytes_on i plan n r c) count ≡ 0
  bytes-of_no_messages zero none = refl
  bytes-of_no_messages (suc m) none = elim (cases_Bool (is_in_frame_on i plan n r c m)) [
    | inl here ↦
        let last : filter (is_in_frame_on i plan n r c) (range_with_len 0 m) ++ (m ∷ []) ≡ [] = rw (filter_more (is_in_frame_on i plan n r c) m, here) at none in
        absurd (omega (arith, ap length last, length-append (filter (is_in_frame_on i plan n r c) (range_with_len 0 m)) (m ∷ [])))
    | inr elsewhere ↦
        let kept = filter (is_in_frame_on i plan n r c) (range_with_len 0 m) in
        let before : filter (is_in_frame_on i plan n r c) (range_with_len 0 m) ≡ [] = rw (filter_more (is_in_frame_on i plan n r c) m, elsewhere, append-nil kept) at none in
        omega (arith, total_more (bytes_on i plan n r c) m, bytes-of_no_messages m before, bytes-elsewhere m elsewhere)
  ]
