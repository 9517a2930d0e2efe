-- Looks and offers keep the rule of the word.
use Rattle.std.proofs.Common.{◌≡◌, ℕ, ◌≤◌, ◌⊎◌, inr, ⊎_elim, true, true≢false, List, [], ◌∷◌, set, sym, refl, ◌∙◌, subst, min, arith, slice_index}
use Rattle.std.proofs.lemmas.List.Elements.{All-append, Contains-append_left, Contains-append_right}
use Rattle.atomic_table.specs.Table.{Act, keeps, Step, Me, Allows, Valid, stepped, carried_after}
use Rattle.atomic_table.proofs.Lists.{set_here}
use Rattle.incumbent.specs.declared.word.View.{View}
use Rattle.incumbent.specs.Word.{Kept, IsReached, Looks, Offers, answered, offered}
use Rattle.incumbent.proofs.Views.{at_length, goes_down, lower, one_above, still_reached}

pub looks : (top slots id : ℕ) (me : Me (Unit {0}) View) (st : Step (Unit {0})) → Allows (Kept top) slots id me 0 (λ n. n) (Looks st me)
looks top slots id me st s h homes at small =
    let P : List ℕ → Type 0 = λ ws. (w : View) × (a : Act (Unit {0})) × Valid s.homes me.1 a
    × Kept top (stepped (record { words = ws; homes = s.homes; views = s.views }) 0 (slice_index ws 0) id me.1 w a)
    × Looks st me (slice_index ws 0) (w, carried_after me.1 a) in
    let n = h.word in let v = me.0 in let w = answered v n in let mine = h.each id v at in
    subst P (sym h.is) (
      w,
      keeps,
      tt,
      record {
        word = n;
        is = refl;
        at_most = h.at_most;
        fits = h.fits;
        each =
            goes_down s.views id v w at top n n h.each (omega arith)
            (record {
              seen = All-append (λ (y : ℕ). n ≤ y) v.seen (n ∷ []) mine.below.seen
                  (one_above n n (omega arith));
              offers = mine.below.offers;
            }) mine.ended refl refl refl;
        reached = still_reached s.views id v w at top n (λ c. c) h.reached;
      },
      (h.fits, mine.below, refl, refl),
    )

least_cases : (n x : ℕ) → (min n x ≡ n) ⊎ (min n x ≡ x)
least_cases n x = grind arith

pub offers : (top slots id : ℕ) (me : Me (Unit {0}) View) (st : Step (Unit {0})) → me.0.live ≡ true
    → Allows (Kept top) slots id me 0 (λ n. min n st.first) (Offers st me)
offers top slots id me st live s h homes at small =
    let x = st.first in
    let P : List ℕ → Type 0 = λ ws. (w : View) × (a : Act (Unit {0})) × Valid s.homes me.1 a
    × Kept top (stepped (record { words = ws; homes = s.homes; views = s.views }) 0 (min (slice_index ws 0) x) id me.1 w a)
    × Offers st me (slice_index ws 0) (w, carried_after me.1 a) in
    let n = h.word in let v = me.0 in let m = min n x in let w = offered v m x in let mine = h.each id v at in
    let less : m ≤ n = omega arith in let less' : m ≤ x = omega arith in
    subst P (sym h.is) (
      w,
      keeps,
      tt,
      record {
        word = m;
        is = refl;
        at_most = let le = h.at_most in omega arith;
        fits = let f = h.fits in omega arith;
        each = goes_down s.views id v w at top n m h.each less (record {
          seen = All-append (λ (y : ℕ). m ≤ y) v.seen (m ∷ []) (lower n m v.seen less mine.below.seen) (one_above m m (omega arith));
          offers = All-append (λ (y : ℕ). m ≤ y) v.offers (x ∷ []) (lower n m v.offers less mine.below.offers) (one_above m x less');
        }) (λ dead. absurd (true≢false (sym live ∙ dead))) refl refl refl;
        reached = ⊎_elim
            (λ e. subst (λ k. IsReached top k (set s.views id w)) (sym e) (still_reached s.views id v w at top n
            (λ c. Contains-append_left v.offers (x ∷ []) n c) h.reached))
            (λ e. subst (λ k. IsReached top k (set s.views id w)) (sym e) (inr (
              id,
              w,
              set_here s.views id w (at_length s.views id v at),
              Contains-append_right v.offers (x ∷ []) x (0, omega arith, refl),
            )))
            (least_cases n x);
      },
      (h.fits, mine.below, refl, refl),
    )
