-- A conclusion that sharpens what is known makes its fact alike where less was known, and sharpens that too.
use Rattle.std.proofs.Common.{◌≡◌, ◌≢◌, ℕ, ◌<◌, min, max, length, Bool, true, false, if◌then◌else◌, IsFalse, arith, inl, inr, refl, ap, sym, ◌∙◌}
use Rattle.std.proofs.lemmas.Bool.{cases_lt, cases_Bool, both_ways, false≢true}
use Rattle.ttp_model.specs.Instance.{Instance}
use Rattle.tt_choice.proofs.Before.{put_same}
use Rattle.sought_plans.specs.Known.{Known, Fits, es_of, le_of, lo_of, top_of, bef_of}
use Rattle.sought_plans.specs.Conclusions.{Conclusion, StartsFrom, EndsUntil, SentFrom, SentBefore, GoesFirst, NothingLeft, IsAbout, sharpened, capped}
use Rattle.tt_infer.specs.Sharper.{IsSharper}
use Rattle.tt_infer.specs.Targets.{fact_of}
use Rattle.tt_infer.specs.Reads.{AgreeOn}
use Rattle.tt_infer.proofs.Keeps.{changed_here}
use Rattle.tt_infer.proofs.Targets.{stays}

module _ (i : Instance) (f h : Known) (fits : Fits i f) (also : Fits i h) (less : IsSharper h f) where
  start_rises : (p time : ℕ) → p < length i.processes → sharpened i f (StartsFrom p time) ≢ f → es_of f p < capped i time
  start_rises p time there sharp = elim (cases_lt (es_of f p) (capped i time)) [
    | inl rises ↦ rises
    | inr over ↦
        let is = changed_here f.es p p (max (es_of f p) (capped i time)) (omega (arith, fits.es, there)) refl in
        absurd (sharp (stays i f (StartsFrom p time) fits there (omega (arith, is, over))))
  ]

  end_falls : (p time : ℕ) → p < length i.processes → sharpened i f (EndsUntil p time) ≢ f → time < le_of f p
  end_falls p time there sharp = elim (cases_lt time (le_of f p)) [
    | inl falls ↦ falls
    | inr over ↦
        let is = changed_here f.le p p (min (le_of f p) time) (omega (arith, fits.le, there)) refl in
        absurd (sharp (stays i f (EndsUntil p time) fits there (omega (arith, is, over))))
  ]

  first_rises : (m r : ℕ) → m < length i.messages → sharpened i f (SentFrom m r) ≢ f → lo_of f m < capped i r
  first_rises m r there sharp = elim (cases_lt (lo_of f m) (capped i r)) [
    | inl rises ↦ rises
    | inr over ↦
        let is = changed_here f.lo m m (max (lo_of f m) (capped i r)) (omega (arith, fits.lo, there)) refl in
        absurd (sharp (stays i f (SentFrom m r) fits there (omega (arith, is, over))))
  ]

  late_falls : (m r : ℕ) → m < length i.messages → sharpened i f (SentBefore m r) ≢ f → r < top_of f m
  late_falls m r there sharp = elim (cases_lt r (top_of f m)) [
    | inl falls ↦ falls
    | inr over ↦
        let is = changed_here f.top m m (min (top_of f m) r) (omega (arith, fits.top, there)) refl in
        absurd (sharp (stays i f (SentBefore m r) fits there (omega (arith, is, over))))
  ]

  put_in_f : (p q : ℕ) → p < length i.processes → q < length i.processes → bef_of (sharpened i f (GoesFirst p q)) p q ≡ true
  put_in_f p q first second = put_same f.bef p q (omega (arith, fits.processes, first)) (omega (arith, fits.processes, second)) (rw fits.processes fits.tests)

  put_in_h : (p q : ℕ) → p < length i.processes → q < length i.processes → bef_of (sharpened i h (GoesFirst p q)) p q ≡ true
  put_in_h p q first second = put_same h.bef p q (omega (arith, also.processes, first)) (omega (arith, also.processes, second)) (rw also.processes also.tests)

  order_unknown : (p q : ℕ) → p < length i.processes → q < length i.processes → sharpened i f (GoesFirst p q) ≢ f → bef_of f p q ≡ false
  order_unknown p q first second sharp = elim (cases_Bool (bef_of f p q)) [
    | inr unknown ↦ unknown
    | inl known ↦
        let same : bef_of (sharpened i f (GoesFirst p q)) p q ≡ bef_of f p q = put_in_f p q first second ∙ sym known in
        absurd (sharp (stays i f (GoesFirst p q) fits (first, second) (ap {B = ℕ} (λ (b : Bool). if b then 1 else 0) same)))
  ]

  -- the fact is known alike then
  pub agree_written : (k : Conclusion) → IsAbout i k → sharpened i f k ≢ f → AgreeOn (sharpened i f k) (sharpened i h k) (fact_of k)
  agree_written (StartsFrom p time) there sharp =
      let rises = start_rises p time there sharp in
      let here = changed_here f.es p p (max (es_of f p) (capped i time)) (omega (arith, fits.es, there)) refl in
      let too = changed_here h.es p p (max (es_of h p) (capped i time)) (omega (arith, also.es, there)) refl in
      omega (arith, here, too, rises, less.es p)
  agree_written (EndsUntil p time) there sharp =
      let falls = end_falls p time there sharp in
      let here = changed_here f.le p p (min (le_of f p) time) (omega (arith, fits.le, there)) refl in
      let too = changed_here h.le p p (min (le_of h p) time) (omega (arith, also.le, there)) refl in
      omega (arith, here, too, falls, less.le p)
  agree_written (SentFrom m r) there sharp =
      let rises = first_rises m r there sharp in
      let here = changed_here f.lo m m (max (lo_of f m) (capped i r)) (omega (arith, fits.lo, there)) refl in
      let too = changed_here h.lo m m (max (lo_of h m) (capped i r)) (omega (arith, also.lo, there)) refl in
      omega (arith, here, too, rises, less.lo m)
  agree_written (SentBefore m r) there sharp =
      let falls = late_falls m r there sharp in
      let here = changed_here f.top m m (min (top_of f m) r) (omega (arith, fits.top, there)) refl in
      let too = changed_here h.top m m (min (top_of h m) r) (omega (arith, also.top, there)) refl in
      omega (arith, here, too, falls, less.top m)
  agree_written (GoesFirst p q) there sharp = put_in_f p q there.0 there.1 ∙ sym (put_in_h p q there.0 there.1)
  agree_written NothingLeft there sharp = refl

  -- and was known less there too
  pub still_sharp : (k : Conclusion) → IsAbout i k → IsFalse h.closed → sharpened i f k ≢ f → sharpened i h k ≢ h
  still_sharp (StartsFrom p time) there left sharp same =
      let rises = start_rises p time there sharp in
      let too = changed_here h.es p p (max (es_of h p) (capped i time)) (omega (arith, also.es, there)) refl in
      omega (arith, too, rises, less.es p, ap (λ (k : Known). es_of k p) same)
  still_sharp (EndsUntil p time) there left sharp same =
      let falls = end_falls p time there sharp in
      let too = changed_here h.le p p (min (le_of h p) time) (omega (arith, also.le, there)) refl in
      omega (arith, too, falls, less.le p, ap (λ (k : Known). le_of k p) same)
  still_sharp (SentFrom m r) there left sharp same =
      let rises = first_rises m r there sharp in
      let too = changed_here h.lo m m (max (lo_of h m) (capped i r)) (omega (arith, also.lo, there)) refl in
      omega (arith, too, rises, less.lo m, ap (λ (k : Known). lo_of k m) same)
  still_sharp (SentBefore m r) there left sharp same =
      let falls = late_falls m r there sharp in
      let too = changed_here h.top m m (min (top_of h m) r) (omega (arith, also.top, there)) refl in
      omega (arith, too, falls, less.top m, ap (λ (k : Known). top_of k m) same)
  still_sharp (GoesFirst p q) there left sharp same =
      let unknown = order_unknown p q there.0 there.1 sharp in
      let known : bef_of h p q ≡ true = sym (ap (λ (k : Known). bef_of k p q) same) ∙ put_in_h p q there.0 there.1 in
      both_ways _ unknown (less.bef p q known)
  still_sharp NothingLeft there left sharp same = false≢true (sym left ∙ sym (ap (λ (k : Known). k.closed) same))
