-- A conclusion leaves two states alike in what they are alike in.
use Rattle.std.proofs.Common.{◌≡◌, ℕ, ◌<◌, min, max, List, length, slice_index, slice_set, arith, inl, inr, refl, ap, sym, subst, ◌∙◌}
use Rattle.std.proofs.lemmas.Bool.{cases_eq}
use Rattle.ttp_model.specs.Instance.{Instance}
use Rattle.tt_choice.proofs.Before.{put_other, put_same}
use Rattle.tt_infer.specs.declared.fact.Fact.{Fact}
use Rattle.tt_infer.specs.declared.fact.Fact.TheVariants.{Start, End, FirstRound, LateRound, Order, Closed}
use Rattle.sought_plans.specs.Known.{Known, Fits, es_of, le_of, lo_of, top_of, bef_of}
use Rattle.sought_plans.specs.Conclusions.{Conclusion, StartsFrom, EndsUntil, SentFrom, SentBefore, GoesFirst, NothingLeft, IsAbout, sharpened, capped}
use Rattle.tt_infer.specs.Reads.{AgreeOn}
use Rattle.tt_infer.proofs.Keeps.{changed_here, changed_there}

-- one number of each of two lists is another, the same where what stood there was
put_alike : (xs ys : List ℕ) (k x y j : ℕ) → k < length xs → k < length ys → (slice_index xs k ≡ slice_index ys k → x ≡ y) → slice_index xs j ≡ slice_index ys j → slice_index (slice_set xs k x) j ≡ slice_index (slice_set ys k y) j
put_alike xs ys k x y j here there put same = elim (cases_eq j k) [
  | inl is ↦ changed_here xs k j x here is ∙ put (subst (λ (n : ℕ). slice_index xs n ≡ slice_index ys n) is same) ∙ sym (changed_here ys k j y there is)
  | inr other ↦ changed_there xs k j x other ∙ same ∙ sym (changed_there ys k j y other)
]

module _ (i : Instance) (f h : Known) (fits : Fits i f) (also : Fits i h) where
  es_after : (k : Conclusion) → IsAbout i k → (p : ℕ) → es_of f p ≡ es_of h p → es_of (sharpened i f k) p ≡ es_of (sharpened i h k) p
  es_after (StartsFrom q time) about p same =
      put_alike f.es h.es q (max (es_of f q) (capped i time)) (max (es_of h q) (capped i time)) p (omega (arith, fits.es, about)) (omega (arith, also.es, about)) (ap (λ (start : ℕ). max start (capped i time))) same
  es_after (EndsUntil q time) about p same = same
  es_after (SentFrom m r) about p same = same
  es_after (SentBefore m r) about p same = same
  es_after (GoesFirst x y) about p same = same
  es_after NothingLeft about p same = same

  le_after : (k : Conclusion) → IsAbout i k → (p : ℕ) → le_of f p ≡ le_of h p → le_of (sharpened i f k) p ≡ le_of (sharpened i h k) p
  le_after (StartsFrom q time) about p same = same
  le_after (EndsUntil q time) about p same =
      put_alike f.le h.le q (min (le_of f q) time) (min (le_of h q) time) p (omega (arith, fits.le, about)) (omega (arith, also.le, about)) (ap (λ (end : ℕ). min end time)) same
  le_after (SentFrom m r) about p same = same
  le_after (SentBefore m r) about p same = same
  le_after (GoesFirst x y) about p same = same
  le_after NothingLeft about p same = same

  lo_after : (k : Conclusion) → IsAbout i k → (m : ℕ) → lo_of f m ≡ lo_of h m → lo_of (sharpened i f k) m ≡ lo_of (sharpened i h k) m
  lo_after (StartsFrom q time) about m same = same
  lo_after (EndsUntil q time) about m same = same
  lo_after (SentFrom n r) about m same =
      put_alike f.lo h.lo n (max (lo_of f n) (capped i r)) (max (lo_of h n) (capped i r)) m (omega (arith, fits.lo, about)) (omega (arith, also.lo, about)) (ap (λ (first : ℕ). max first (capped i r))) same
  lo_after (SentBefore n r) about m same = same
  lo_after (GoesFirst x y) about m same = same
  lo_after NothingLeft about m same = same

  top_after : (k : Conclusion) → IsAbout i k → (m : ℕ) → top_of f m ≡ top_of h m → top_of (sharpened i f k) m ≡ top_of (sharpened i h k) m
  top_after (StartsFrom q time) about m same = same
  top_after (EndsUntil q time) about m same = same
  top_after (SentFrom n r) about m same = same
  top_after (SentBefore n r) about m same =
      put_alike f.top h.top n (min (top_of f n) r) (min (top_of h n) r) m (omega (arith, fits.top, about)) (omega (arith, also.top, about)) (ap (λ (late : ℕ). min late r)) same
  top_after (GoesFirst x y) about m same = same
  top_after NothingLeft about m same = same

  order_after : (x y p q : ℕ) → x < length i.processes → y < length i.processes → bef_of f p q ≡ bef_of h p q → bef_of (sharpened i f (GoesFirst x y)) p q ≡ bef_of (sharpened i h (GoesFirst x y)) p q
  order_after x y p q first second same =
      let row : x < f.bef.processes = omega (arith, fits.processes, first) in
      let column : y < f.bef.processes = omega (arith, fits.processes, second) in
      let row_too : x < h.bef.processes = omega (arith, also.processes, first) in
      let column_too : y < h.bef.processes = omega (arith, also.processes, second) in
      elim (cases_eq p x) [
        | inr other ↦ put_other f.bef x y p q row column (inl other) ∙ same ∙ sym (put_other h.bef x y p q row_too column_too (inl other))
        | inl is ↦ elim (cases_eq q y) [
          | inr other ↦ put_other f.bef x y p q row column (inr other) ∙ same ∙ sym (put_other h.bef x y p q row_too column_too (inr other))
          | inl also_is ↦ rw (is, also_is) (put_same f.bef x y row column (rw fits.processes fits.tests) ∙ sym (put_same h.bef x y row_too column_too (rw also.processes also.tests)))
        ]
      ]

  bef_after : (k : Conclusion) → IsAbout i k → (p q : ℕ) → bef_of f p q ≡ bef_of h p q → bef_of (sharpened i f k) p q ≡ bef_of (sharpened i h k) p q
  bef_after (StartsFrom x time) about p q same = same
  bef_after (EndsUntil x time) about p q same = same
  bef_after (SentFrom m r) about p q same = same
  bef_after (SentBefore m r) about p q same = same
  bef_after (GoesFirst x y) about p q same = order_after x y p q about.0 about.1 same
  bef_after NothingLeft about p q same = same

  closed_after : (k : Conclusion) → f.closed ≡ h.closed → (sharpened i f k).closed ≡ (sharpened i h k).closed
  closed_after (StartsFrom x time) same = same
  closed_after (EndsUntil x time) same = same
  closed_after (SentFrom m r) same = same
  closed_after (SentBefore m r) same = same
  closed_after (GoesFirst x y) same = same
  closed_after NothingLeft same = refl

  pub agree_after : (k : Conclusion) → IsAbout i k → (fact : Fact) → AgreeOn f h fact → AgreeOn (sharpened i f k) (sharpened i h k) fact
  agree_after k about (Start p) same = es_after k about p same
  agree_after k about (End p) same = le_after k about p same
  agree_after k about (FirstRound m) same = lo_after k about m same
  agree_after k about (LateRound m) same = top_after k about m same
  agree_after k about (Order p q) same = bef_after k about p q same
  agree_after k about Closed same = closed_after k same
