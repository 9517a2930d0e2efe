-- With one channel each message is fixed to it, in every choice.
use Rattle.std.proofs.Common.{◌≡◌, ℕ, suc, ◌+◌, ◌<◌, List, [], ◌∷◌, length, slice_index_or, count_by, is_none, Option, None, Some, IsSome, Bool, false, cond, arith, refl, ap}
use Rattle.std.proofs.lemmas.List.Sums.{sum_by-cons}
use Rattle.ttp_model.specs.Instance.{Instance}
use Rattle.tt_choice.specs.Choice.{Choice, fixed_channel, IsChannel, IsChoice}
use Rattle.tt_choice.specs.Changes.{IsFreeChannel}

pub only_channel : (i : Instance) (c : Choice) (m : ℕ) → i.cluster.channels ≡ 1 → IsChoice i c → m < length i.messages → fixed_channel c m ≡ Some 0
only_channel i c m alone ok inside = pick (fixed_channel c m) (ok.channels m inside)
  where
    pick : (o : Option ℕ) → IsChannel i m o → o ≡ Some 0
    pick None is = let two : i.cluster.channels ≡ 2 = is.0 in absurd (omega (arith, alone, two))
    pick (Some fixed) is = ap {B = Option ℕ} (λ (k : ℕ). Some k) (is.alone alone)

pub channel_is_fixed : (i : Instance) (c : Choice) (m : ℕ) → i.cluster.channels ≡ 1 → IsChoice i c → m < length i.messages → IsSome (fixed_channel c m)
channel_is_fixed i c m alone ok inside = rw (only_channel i c m alone ok inside) refl

-- so none is free, and no branch on one is open
pub no_channel_is_open : (i : Instance) (c : Choice) (m : ℕ) → i.cluster.channels ≡ 1 → IsChoice i c → IsFreeChannel i c m → ⊥
no_channel_is_open i c m alone ok is =
    let free : fixed_channel c m ≡ None = is.free in
    let fixed : fixed_channel c m ≡ Some 0 = only_channel i c m alone ok is.message in
    cc

free_more : (x : Option ℕ) (xs : List (Option ℕ)) → count_by is_none (x ∷ xs) ≡ cond (is_none x) 1 0 + count_by is_none xs
free_more x xs = sum_by-cons (λ (o : Option ℕ). cond (is_none o) 1 0) x xs

none_counted : (xs : List (Option ℕ)) → ((k : ℕ) → k < length xs → is_none (slice_index_or xs k None) ≡ false) → count_by is_none xs ≡ 0
none_counted [] fixed = refl
none_counted (x ∷ xs) fixed =
    let first : cond (is_none x) 1 0 ≡ 0 = ap {B = ℕ} (λ (b : Bool). cond b 1 0) (fixed 0 (omega arith)) in
    let rest = none_counted xs (λ k h. fixed (suc k) (omega arith)) in
    omega (arith, free_more x xs, first, rest)

pub no_channel_is_free : (i : Instance) (c : Choice) → i.cluster.channels ≡ 1 → IsChoice i c → count_by is_none c.channels ≡ 0
no_channel_is_free i c alone ok = none_counted c.channels (λ m h.
    ap {B = Bool} (λ (o : Option ℕ). is_none o) (only_channel i c m alone ok (omega (arith, h, ok.channels_length))))
