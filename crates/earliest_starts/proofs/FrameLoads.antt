-- The bytes of a node's frames on a channel, as its messages are counted up.
use Rattle.std.proofs.Common.{◌≡◌, ◌≢◌, ℕ, ◌+◌, ◌*◌, ◌≤◌, ◌==◌, ◌&&◌, Bool, true, false, [], nat_eq, unwrap_or, Option, Some, arith, inl, inr, refl, sym, ap, ◌∙◌}
use Rattle.std.specs.HashMap.{HashMap, get, Updates}
use Rattle.std.proofs.lemmas.Bool.{cases_eq, eq-eqb, ne_eqb, and_parts, and_cases}
use Rattle.ttp_model.specs.declared.limits.TheConstants.{MOST_BYTES}
use Rattle.ttp_model.specs.Instance.{Instance, message_at, source_of}
use Rattle.ttp_model.specs.Plans.{bytes_in, channel_of, is_on}
use Rattle.ttp_model.specs.Totals.{total}
use Rattle.ttp_model.proofs.Totals.{total_next}
use Rattle.ttp_model.proofs.Channels.{on_at_most, all_on, none_on}
use Rattle.tt_choice.specs.Choice.{Choice, least_round}
use Rattle.earliest_starts.specs.Fixed.{plan_of, fixed_bytes}

-- the map has the bytes of each frame of node n on channel k, of the messages below m; none is overfull
pub record AreCounted {S : Type 0} (i : Instance) (c : Choice) (n k m capacity : ℕ) (loads : HashMap ℕ ℕ S) : Type 0 where
  pub counted : (r : ℕ) → unwrap_or (get nat_eq loads r) 0 ≡ total (fixed_bytes i c n r k) m
  pub fits : (r : ℕ) → total (fixed_bytes i c n r k) m ≤ capacity
  pub small : (r : ℕ) → total (fixed_bytes i c n r k) m ≤ m * MOST_BYTES

module _ (i : Instance) (c : Choice) (n k m : ℕ) where
  -- whether the node sends the message, on the channel or on both
  abbrev pub is_sent : Bool
  is_sent = source_of i m == n && is_on k (channel_of (plan_of c []) m)

  module _ (sent : is_sent ≡ true) where
    by_node : (source_of i m == n) ≡ true
    by_node = (and_parts (source_of i m == n) (is_on k (channel_of (plan_of c []) m)) sent).0

    on_channel : is_on k (channel_of (plan_of c []) m) ≡ true
    on_channel = (and_parts (source_of i m == n) (is_on k (channel_of (plan_of c []) m)) sent).1

    -- then it adds its bytes to the frame of its round
    pub load_more : (r : ℕ) → least_round c m ≡ r → total (fixed_bytes i c n r k) (m + 1) ≡ total (fixed_bytes i c n r k) m + (message_at i m).bytes
    load_more r round =
        let bytes : bytes_in i (plan_of c []) n r m ≡ (message_at i m).bytes = rw (by_node, eq-eqb _ _ round) refl in
        omega (arith, bytes, all_on i (plan_of c []) n r k m on_channel, total_next (fixed_bytes i c n r k) m)

    -- and nothing to that of another one
    load_same_round : (r : ℕ) → least_round c m ≢ r → total (fixed_bytes i c n r k) (m + 1) ≡ total (fixed_bytes i c n r k) m
    load_same_round r differ =
        let none : bytes_in i (plan_of c []) n r m ≡ 0 = rw (by_node, ne_eqb _ _ differ) refl in
        omega (arith, none, on_at_most i (plan_of c []) n r k m, total_next (fixed_bytes i c n r k) m)

    module _ (round load : ℕ) (at : least_round c m ≡ round) (is : load ≡ total (fixed_bytes i c n round k) m + (message_at i m).bytes) where
      -- the count of the message's round is written anew
      counted_more : {S : Type 0} (old new : HashMap ℕ ℕ S) → ((r : ℕ) → unwrap_or (get nat_eq old r) 0 ≡ total (fixed_bytes i c n r k) m) → Updates nat_eq old new round (Some load) → (r : ℕ) → unwrap_or (get nat_eq new r) 0 ≡ total (fixed_bytes i c n r k) (m + 1)
      counted_more old new counted updates r = elim (cases_eq round r) [
        | inl same ↦ ap (λ (o : Option ℕ). unwrap_or o 0) (ap (get nat_eq new) (sym same) ∙ updates.1) ∙ is ∙ ap (λ (x : ℕ). total (fixed_bytes i c n x k) m + (message_at i m).bytes) same ∙ sym (load_more r (at ∙ same))
        | inr differ ↦ ap (λ (o : Option ℕ). unwrap_or o 0) (updates.2 r (ne_eqb _ _ differ)) ∙ counted r ∙ sym (load_same_round r (λ same. differ (sym at ∙ same)))
      ]

      -- the counts stay below a bound
      bound_more : (bound : ℕ) → load ≤ bound → ((r : ℕ) → total (fixed_bytes i c n r k) m ≤ bound) → (r : ℕ) → total (fixed_bytes i c n r k) (m + 1) ≤ bound
      bound_more bound fits all r = elim (cases_eq round r) [
        | inl same ↦ omega (arith, fits, is, load_more r (at ∙ same), ap (λ (x : ℕ). total (fixed_bytes i c n x k) m) same)
        | inr differ ↦ omega (arith, all r, load_same_round r (λ same. differ (sym at ∙ same)))
      ]

      pub AreCounted-more : {S : Type 0} (capacity : ℕ) (old new : HashMap ℕ ℕ S) → AreCounted i c n k m capacity old → load ≤ capacity → (message_at i m).bytes ≤ MOST_BYTES → Updates nat_eq old new round (Some load) → AreCounted i c n k (m + 1) capacity new
      AreCounted-more capacity old new before fits few updates = record {
        counted = counted_more old new before.counted updates;
        fits = bound_more capacity fits before.fits;
        small = bound_more ((m + 1) * MOST_BYTES) (omega (arith, is, few, before.small round)) (λ r. omega (arith, before.small r));
      }

  -- a message of another node, or of the other channel alone, adds nothing
  load_same : is_sent ≡ false → (r : ℕ) → total (fixed_bytes i c n r k) (m + 1) ≡ total (fixed_bytes i c n r k) m
  load_same other r = elim (and_cases (source_of i m == n) (is_on k (channel_of (plan_of c []) m)) other) [
    | inl differ ↦ (
        let none : bytes_in i (plan_of c []) n r m ≡ 0 = rw differ refl in
        omega (arith, none, on_at_most i (plan_of c []) n r k m, total_next (fixed_bytes i c n r k) m))
    | inr off ↦ omega (arith, none_on i (plan_of c []) n r k m off, total_next (fixed_bytes i c n r k) m)
  ]

  -- so it changes nothing
  pub AreCounted-same : {S : Type 0} (capacity : ℕ) (loads : HashMap ℕ ℕ S) → is_sent ≡ false → AreCounted i c n k m capacity loads → AreCounted i c n k (m + 1) capacity loads
  AreCounted-same capacity loads other before = record {
    counted = λ r. before.counted r ∙ sym (load_same other r);
    fits = λ r. omega (arith, before.fits r, load_same other r);
    small = λ r. omega (arith, before.small r, load_same other r);
  }
