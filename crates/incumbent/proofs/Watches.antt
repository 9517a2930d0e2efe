-- Splitting and joining watches keep the rule of the word.
use Rattle.std.proofs.Common.{◌≡◌, ◌≢◌, ℕ, ◌+◌, ◌≤◌, inl, inr, ⊎_elim, Bool, true, true≢false, List, [], ◌∷◌, ◌++◌, set, sym, refl, ap, ◌∙◌, subst, cond, Contains, arith}
use native.Mathlib.Decide.{ℕ_discrete}
use Rattle.std.proofs.lemmas.List.Elements.{All-append, All-nil, Contains-append_left, Contains-append_right}
use Rattle.std.proofs.lemmas.List.Sums.{sum_by_push}
use mathlib.Core.Option.{some, some-injective}
use lib.ListN.{get_elem?}
use Rattle.atomic_table.specs.Table.{Splits, Joins}
use Rattle.atomic_table.proofs.Lists.{at_set, at_snoc, set_here, set_else, at_longer}
use Rattle.incumbent.specs.declared.word.View.{View}
use Rattle.incumbent.specs.Word.{Kept, FitsAt, live_count, one_more_out, newcomer, taken_in, spent}
use Rattle.incumbent.proofs.Views.{at_length, each_set, same_count, still_reached, total_set, weight_le, weight_of}

count_snoc : (views : List View) (r : View) → live_count (views ++ r ∷ []) ≡ live_count views + weight_of r
count_snoc views r = sum_by_push weight_of views r

-- the opening watch gives a part of its view away
pub splits : (top id : ℕ) (v : View) → v.opening ≡ true → v.live ≡ true → Splits (Kept top) id v (one_more_out v) (newcomer v)
splits top id v is_opening live s h at =
    let n = h.word in let l = one_more_out v in let r = newcomer v in let mine = h.each id v at in let vs = set s.views id l in
    let count : live_count (vs ++ r ∷ []) ≡ live_count s.views + 1 = count_snoc vs r ∙ ap (λ k. k + 1) (same_count s.views id v l at refl) in
    let first : (id ≡ 0) × (live_count s.views ≡ v.out + 1) = mine.opening is_opening in
    let old : (j : ℕ) (u : View) → get_elem? vs j ≡ some u → FitsAt n (live_count (vs ++ r ∷ [])) j u =
    each_set (FitsAt n (live_count (vs ++ r ∷ []))) s.views id l
    (record {
      below = record { seen = mine.below.seen; offers = mine.below.offers };
      ended = mine.ended;
      opening = λ _. (
        first.0,
        count ∙ ap (λ k. k + 1) first.1,
      );
    })
    (λ j u other e. let f = h.each j u e in record { below = f.below; ended = f.ended; opening = λ o. absurd (other ((f.opening o).0 ∙ sym first.0)) }) in
    record {
      word = n;
      is = h.is;
      at_most = h.at_most;
      fits = h.fits;
      each = λ j u e. ⊎_elim (old j u) (λ (is : r ≡ u). subst (FitsAt n (live_count (vs ++ r ∷ [])) j) is
          (record {
            below = record {
              seen = All-append (λ (y : ℕ). n ≤ y) v.seen v.offers mine.below.seen mine.below.offers;
              offers = All-nil
                  (λ (y : ℕ). n ≤ y);
            };
            ended = λ _. refl;
            opening = λ o. absurd (true≢false (sym o));
          })) (at_snoc vs r u j e);
      reached =
          ⊎_elim inl (λ (x : (port : ℕ) × (u : View) × (get_elem? vs port ≡ some u) × Contains u.offers n). inr (
            x.0,
            x.1,
            at_longer vs (r ∷ []) x.0 x.1 x.2,
            x.3,
          )) (still_reached s.views id v l at top n (λ c. c) h.reached);
    }

-- the opening watch takes another in
pub joins : (top id : ℕ) (v : View) (other : ℕ) (w : View) → v.opening ≡ true → v.live ≡ true → w.live ≡ true
    → Joins (Kept top) id v other w (taken_in v w) spent
joins top id v other w is_opening live alive s h at two at' =
    let n = h.word in let b = taken_in v w in let vs = set s.views id b in let ws = set vs other spent in
    let was : get_elem? s.views other ≡ some w = ⊎_elim (λ x. absurd (two x.0)) (λ x. x.1) (at_set s.views id other b w at') in
    let mine = h.each id v at in let theirs = h.each other w was in
    let first : (id ≡ 0) × (live_count s.views ≡ v.out + 1) = mine.opening is_opening in
    let stays : get_elem? ws id ≡ some b = set_else vs other id spent (λ e. two (sym e)) ∙ set_here s.views id b (at_length s.views id v at) in
    let left : live_count ws ≡ v.out =
    let count : live_count vs ≡ live_count s.views = same_count s.views id v b at refl in
    let less : live_count ws + weight_of w ≡ live_count vs + 0 = total_set vs other w spent at' in
    let one : weight_of w ≡ 1 = ap (λ (k : Bool). cond k 1 0) alive in
    let all : live_count s.views ≡ v.out + 1 = first.1 in omega arith in
    let some_out : 1 ≤ v.out =
    let one : weight_of b ≡ 1 = ap (λ (k : Bool). cond k 1 0) live in let le = weight_le ws id b stays in omega arith in
    record {
      word = n;
      is = h.is;
      at_most = h.at_most;
      fits = h.fits;
      each = each_set (FitsAt n (live_count ws)) vs other spent
          (record {
            below = record { seen = All-nil (λ (y : ℕ). n ≤ y); offers = All-nil (λ (y : ℕ). n ≤ y) };
            ended = λ _. refl;
            opening = λ o.
                absurd (true≢false (sym o));
          })
          (λ j u apart e. ⊎_elim
          (λ (x : (j ≡ id) × (b ≡ u)). subst (λ (y : ℕ × View). FitsAt n (live_count ws) y.0 y.1) (λ i. (sym x.0 i, x.1 i)) (record {
            below =
                record {
                  seen = All-append (λ (y : ℕ). n ≤ y) v.seen w.seen mine.below.seen theirs.below.seen;
                  offers = All-append (λ (y : ℕ). n ≤ y)
                      v.offers w.offers mine.below.offers theirs.below.offers;
                };
            ended = λ dead. absurd (true≢false (sym live ∙ dead));
            opening = λ _. (first.0, omega arith);
          }))
          (λ (x : (j ≢ id) × (get_elem? s.views j ≡ some u)). let f = h.each j u x.1 in record
          { below = f.below; ended = f.ended; opening = λ o. absurd (x.0 ((f.opening o).0 ∙ sym first.0)) })
          (at_set s.views id j b u e));
      reached =
          ⊎_elim inl (λ (x : (port : ℕ) × (u : View) × (get_elem? s.views port ≡ some u) × Contains u.offers n). inr
          (found x.0 x.1 x.2 x.3 (ℕ_discrete x.0 other) (ℕ_discrete x.0 id))) h.reached;
    } where
      stays' : get_elem? (set (set s.views id (taken_in v w)) other spent) id ≡ some (taken_in v w)
      stays' = set_else (set s.views id (taken_in v w)) other id spent (λ e. two (sym e)) ∙ set_here s.views id (taken_in v w) (at_length s.views id v at)

      found : (p : ℕ) (u : View) → get_elem? s.views p ≡ some u → Contains u.offers h.word → Dec (p ≡ other) → Dec (p ≡ id)
          → (port : ℕ) × (x : View) × (get_elem? (set (set s.views id (taken_in v w)) other spent) port ≡ some x) × Contains x.offers h.word
      found p u there has (yes e) d =
          let was : get_elem? s.views other ≡ some w = ⊎_elim (λ x. absurd (two x.0)) (λ x. x.1) (at_set s.views id other (taken_in v w) w at') in
          let is : u ≡ w = some-injective u w (sym there ∙ ap (get_elem? s.views) e ∙ was) in
          (id, taken_in v w, stays', Contains-append_right v.offers w.offers h.word (subst (λ (x : View). Contains x.offers h.word) is has))
      found p u there has (no apart) (yes e) =
          let is : u ≡ v = some-injective u v (sym there ∙ ap (get_elem? s.views) e ∙ at) in
          (id, taken_in v w, stays', Contains-append_left v.offers w.offers h.word (subst (λ (x : View). Contains x.offers h.word) is has))
      found p u there has (no apart) (no elsewhere) =
          (p, u, set_else (set s.views id (taken_in v w)) other p spent apart ∙ (set_else s.views id p (taken_in v w) elsewhere ∙ there), has)
