-- A conclusion that changes the value of its fact lowers the slack.
use Rattle.std.proofs.Common.{◌≡◌, ◌≢◌, ℕ, ◌+◌, ◌*◌, ◌-◌, ◌<◌, min, max, List, length, slice_index, slice_set, Bool, true, false, if◌then◌else◌, sum_by, arith, refl, ap, sym, ◌∙◌, get_or-set_same}
use Rattle.std.proofs.lemmas.List.Sums.{sum_by-set}
use Rattle.ttp_model.specs.Instance.{Instance}
use Rattle.tt_choice.specs.Precedence.{place_in, put_before}
use Rattle.tt_choice.proofs.Before.{put_same, place_inside, test_of}
use Rattle.tt_infer.specs.Known.{Known, Fits, bef_of}
use Rattle.tt_infer.specs.Conclusions.{Conclusion, StartsFrom, EndsUntil, SentFrom, SentBefore, GoesFirst, NothingLeft, IsAbout, sharpened}
use Rattle.tt_infer.specs.Targets.{fact_of, known_value}
use Rattle.step_logs.specs.Journal.{slack}

less : (g : ℕ → ℕ) (xs : List ℕ) (k v : ℕ) → k < length xs → g v < g (slice_index xs k) → sum_by g (slice_set xs k v) < sum_by g xs
less g xs k v there lt = omega (arith, sum_by-set g xs k v 0 there, lt)

uncounted : (b : Bool) → b ≢ true → b ≡ false
uncounted true differs = absurd (differs refl)
uncounted false differs = refl

-- a rise of a least time that is no later than the end is a fall of what is left
rises : (end : ℕ) (xs : List ℕ) (k low : ℕ) → k < length xs → slice_index (slice_set xs k (max (slice_index xs k) (min low end))) k ≢ slice_index xs k → sum_by (λ time. end - time) (slice_set xs k (max (slice_index xs k) (min low end))) < sum_by (λ time. end - time) xs
rises end xs k low there differs =
    let is = get_or-set_same xs k (max (slice_index xs k) (min low end)) 0 there in
    less (λ time. end - time) xs k (max (slice_index xs k) (min low end)) there (omega (arith, is, differs))

falls : (xs : List ℕ) (k high : ℕ) → k < length xs → slice_index (slice_set xs k (min (slice_index xs k) high)) k ≢ slice_index xs k → sum_by (λ (time : ℕ). time) (slice_set xs k (min (slice_index xs k) high)) < sum_by (λ (time : ℕ). time) xs
falls xs k high there differs =
    let is = get_or-set_same xs k (min (slice_index xs k) high) 0 there in
    less (λ (time : ℕ). time) xs k (min (slice_index xs k) high) there (omega (arith, is, differs))

module _ (i : Instance) (f : Known) (fits : Fits i f) where
  one_order_less : (p q : ℕ) → p < length i.processes → q < length i.processes → bef_of f p q ≡ false → sum_by (λ (test : Bool). if test then 0 else 1) (put_before f.bef p q).tests < sum_by (λ (test : Bool). if test then 0 else 1) f.bef.tests
  one_order_less p q first second none =
      let row : p < f.bef.processes = omega (arith, fits.processes, first) in
      let column : q < f.bef.processes = omega (arith, fits.processes, second) in
      let size : length f.bef.tests ≡ f.bef.processes * f.bef.processes = rw fits.processes fits.tests in
      let inside : place_in f.bef p q < length f.bef.tests = omega (arith, place_inside f.bef p q row column, size) in
      let test = sym (test_of f.bef p q row column) ∙ none in
      let was = ap {B = ℕ} (λ (b : Bool). if b then 0 else 1) test in
      omega (arith, sum_by-set {X = Bool} (λ b. if b then 0 else 1) f.bef.tests (place_in f.bef p q) true false inside, was)

  pub lowers : (k : Conclusion) → IsAbout i k → known_value (sharpened i f k) (fact_of k) ≢ known_value f (fact_of k) → slack i (sharpened i f k) < slack i f
  lowers (StartsFrom p time) there differs = omega (arith, rises (i.cluster.horizon + 1) f.es p time (omega (arith, fits.es, there)) differs)
  lowers (EndsUntil p time) there differs = omega (arith, falls f.le p time (omega (arith, fits.le, there)) differs)
  lowers (SentFrom m r) there differs = omega (arith, rises (i.cluster.horizon + 1) f.lo m r (omega (arith, fits.lo, there)) differs)
  lowers (SentBefore m r) there differs = omega (arith, falls f.top m r (omega (arith, fits.top, there)) differs)
  lowers (GoesFirst p q) there differs =
      let put = put_same f.bef p q (omega (arith, fits.processes, there.0)) (omega (arith, fits.processes, there.1)) (rw fits.processes fits.tests) in
      let none = uncounted (bef_of f p q) (λ holds. differs (ap {B = ℕ} (λ (b : Bool). if b then 1 else 0) (put ∙ sym holds))) in
      omega (arith, one_order_less p q there.0 there.1 none)
  lowers NothingLeft there differs =
      let none = uncounted f.closed (λ holds. differs (ap {B = ℕ} (λ (b : Bool). if b then 1 else 0) (sym holds))) in
      omega (arith, ap {B = ℕ} (λ (b : Bool). if b then 0 else 1) none)
