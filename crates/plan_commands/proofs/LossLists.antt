-- Words that were read one after another, and losses that were added one after another.
use Rattle.std.proofs.Common.{◌≡◌, ◌≢◌, ◌∙◌, ℕ, zero, suc, ◌+◌, ◌<◌, ◌==◌, not, List, [], ◌∷◌, ◌++◌, Bool, true, false, cond, length, take, filter, map, slice_index_or, arith, refl, sym, inl, inr, append_assoc, zero-add}
use Rattle.std.specs.Borrow.{Bor}
use Rattle.std.specs.List.{range_with_len}
use Rattle.std.proofs.lemmas.Bool.Decides.{eqb_tells}
use Rattle.std.proofs.lemmas.List.{append-nil, get_or-map, get_or-take, length-map, length-take, map-append, map-id, take_more}
use Rattle.std.proofs.lemmas.List.FromFn.{filter_of_map_range_with_len_more}
use Rattle.ttp_model.specs.Lists.{IsFirstFailure}
use Rattle.membership_replay.specs.declared.loss.Loss.{Loss}
use Rattle.plan_commands.specs.declared.losses.LossWord.{LossWord}
use Rattle.plan_commands.specs.LossWords.{AllSpell, AreLossWords, IsLossWord, IsLossWordAt, Spells, bytes_of, loss_at}

spelled_at : (words : List (List ℕ)) (losses : List LossWord) → AllSpell words losses → (k : ℕ) → k < length words → IsLossWord (slice_index_or words k [])
spelled_at [] [] all k there = absurd (omega arith)
spelled_at [] (loss ∷ losses) all k there = absurd all
spelled_at (word ∷ words) [] all k there = absurd all
spelled_at (word ∷ words) (loss ∷ losses) all zero there = record { loss = loss; spelled = all.0 }
spelled_at (word ∷ words) (loss ∷ losses) all (suc k) there = spelled_at words losses all.1 k (omega (arith, there))

-- words that were all read are well formed
pub well_formed : (words : List (List ℕ)) (losses : List LossWord) → AllSpell words losses → AreLossWords words
well_formed words losses all = λ k there. spelled_at words losses all k there

AllSpell-push : (words : List (List ℕ)) (losses : List LossWord) (word : List ℕ) (loss : LossWord) → AllSpell words losses → Spells word loss
    → AllSpell (words ++ word ∷ []) (losses ++ loss ∷ [])
AllSpell-push [] [] word loss all spelled = (spelled, tt)
AllSpell-push [] (l ∷ losses) word loss all spelled = absurd all
AllSpell-push (w ∷ words) [] word loss all spelled = absurd all
AllSpell-push (w ∷ words) (l ∷ losses) word loss all spelled = (all.0, AllSpell-push words losses word loss all.1 spelled)

module _ (words : List (List ℕ)) (losses : List LossWord) (k : ℕ) (there : k < length words) (before : AllSpell (take k words) losses) where
  pub first_malformed : ¬ IsLossWord (slice_index_or words k []) → IsFirstFailure (length words) (IsLossWordAt words) k
  first_malformed malformed = record {
    within = there;
    fails = malformed;
    holds_before = λ n below.
        let early = spelled_at (take k words) losses before n (omega (arith, below, there, length-take k words)) in
        rw (get_or-take k words n [] below) at early;
  }

  pub spelled_more : (loss : LossWord) → Spells (slice_index_or words k []) loss → AllSpell (take (k + 1) words) (losses ++ loss ∷ [])
  spelled_more loss spelled = rw (take_more words k [] there) (AllSpell-push (take k words) losses (slice_index_or words k []) loss before spelled)

-- the same of texts that are borrowed, of which this one is at k
module _ (words : List (Bor (List ℕ))) (losses : List LossWord) (k : ℕ) (d : Bor (List ℕ)) (there : k < length words)
    (before : AllSpell (take k (bytes_of words)) losses) (word : List ℕ) (is : word ≡ (slice_index_or words k d).now) where
  bytes_at : slice_index_or (bytes_of words) k [] ≡ word
  bytes_at = get_or-map (λ (w : Bor (List ℕ)). w.now) words k d [] there ∙ sym is

  inside : k < length (bytes_of words)
  inside = omega (arith, there, length-map words (λ (w : Bor (List ℕ)). w.now))

  pub malformed_at : ¬ IsLossWord word → IsFirstFailure (length (bytes_of words)) (IsLossWordAt (bytes_of words)) k
  malformed_at malformed = first_malformed (bytes_of words) losses k inside before (rw bytes_at malformed)

  pub spelled_next : (loss : LossWord) → Spells word loss → AllSpell (take (k + 1) (bytes_of words)) (losses ++ loss ∷ [])
  spelled_next loss spelled = spelled_more (bytes_of words) losses k inside before loss (rw bytes_at spelled)

module _ (f : ℕ → Loss) (p : ℕ → Bool) (before : List Loss) (n : ℕ) where
  kept-more : map f (filter p (range_with_len 0 (n + 1))) ≡ map f (filter p (range_with_len 0 n)) ++ map f (cond (p n) (n ∷ []) [])
  kept-more =
      let passing = filter_of_map_range_with_len_more p (λ m. m) 0 n n (zero-add n) in
      let more = rw (map-id (range_with_len 0 (n + 1)), map-id (range_with_len 0 n)) at passing in
      rw (more, map-append f (filter p (range_with_len 0 n)) (cond (p n) (n ∷ []) [])) refl

  -- one loss more, where the node passes the test
  kept : (now : List Loss) → p n ≡ true → now ≡ before ++ map f (filter p (range_with_len 0 n))
      → now ++ f n ∷ [] ≡ before ++ map f (filter p (range_with_len 0 (n + 1)))
  kept now passes is = rw (kept-more, passes, is) (append_assoc before (map f (filter p (range_with_len 0 n))) (f n ∷ []))

  -- and none more where it doesn't
  left_out : (now : List Loss) → p n ≡ false → now ≡ before ++ map f (filter p (range_with_len 0 n))
      → now ≡ before ++ map f (filter p (range_with_len 0 (n + 1)))
  left_out now fails is = rw (kept-more, fails, append-nil (map f (filter p (range_with_len 0 n)))) is

module _ (word : LossWord) (s : ℕ) (before : List Loss) (n : ℕ) (now : List Loss)
    (is : now ≡ before ++ map (loss_at word) (filter (λ m. not (m == s)) (range_with_len 0 n))) where
  pub kept_receiver : n ≢ s → now ++ loss_at word n ∷ [] ≡ before ++ map (loss_at word) (filter (λ m. not (m == s)) (range_with_len 0 (n + 1)))
  kept_receiver other = elim (eqb_tells n s) [
    | inl same ↦ absurd (other same.1)
    | inr differ ↦ kept (loss_at word) (λ m. not (m == s)) before n now (rw differ.0 refl) is
  ]

  pub left_sender : n ≡ s → now ≡ before ++ map (loss_at word) (filter (λ m. not (m == s)) (range_with_len 0 (n + 1)))
  left_sender sends = elim (eqb_tells n s) [
    | inl same ↦ left_out (loss_at word) (λ m. not (m == s)) before n now (rw same.0 refl) is
    | inr differ ↦ absurd (differ.1 sends)
  ]
