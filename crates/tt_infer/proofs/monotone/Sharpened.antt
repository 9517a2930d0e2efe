-- Where more is known, and a stronger conclusion is drawn, more is known after it.
use Rattle.std.proofs.Common.{◌≡◌, ℕ, ◌*◌, ◌<◌, ◌≤◌, min, max, List, length, slice_index, slice_set, IsTrue, arith, inl, inr, refl}
use Rattle.std.proofs.lemmas.Bool.{cases_eq}
use Rattle.ttp_model.specs.Instance.{Instance}
use Rattle.tt_choice.specs.Precedence.{Precedence, goes_before, put_before}
use Rattle.tt_choice.proofs.Before.{put_kept, put_only, put_same}
use Rattle.sought_plans.specs.Known.{Known, Fits}
use Rattle.sought_plans.specs.Conclusions.{Conclusion, StartsFrom, EndsUntil, SentFrom, SentBefore, GoesFirst, NothingLeft, IsAbout, sharpened, capped}
use Rattle.tt_infer.specs.Sharper.{IsSharper}
use Rattle.tt_infer.proofs.Keeps.{changed_here, changed_there}
use Rattle.tt_infer.proofs.monotone.Nested.{IsStronger}

rise : (xs ys : List ℕ) (k low high : ℕ) → k < length xs → k < length ys → low ≤ high → ((j : ℕ) → slice_index xs j ≤ slice_index ys j) → (j : ℕ) → slice_index (slice_set xs k (max (slice_index xs k) low)) j ≤ slice_index (slice_set ys k (max (slice_index ys k) high)) j
rise xs ys k low high here there le each j = elim (cases_eq j k) [
  | inl same ↦ omega (arith, changed_here xs k j (max (slice_index xs k) low) here same, changed_here ys k j (max (slice_index ys k) high) there same, each k)
  | inr other ↦ omega (arith, changed_there xs k j (max (slice_index xs k) low) other, changed_there ys k j (max (slice_index ys k) high) other, each j)
]

fall : (xs ys : List ℕ) (k low high : ℕ) → k < length xs → k < length ys → low ≤ high → ((j : ℕ) → slice_index ys j ≤ slice_index xs j) → (j : ℕ) → slice_index (slice_set ys k (min (slice_index ys k) low)) j ≤ slice_index (slice_set xs k (min (slice_index xs k) high)) j
fall xs ys k low high here there le each j = elim (cases_eq j k) [
  | inl same ↦ omega (arith, changed_here xs k j (min (slice_index xs k) high) here same, changed_here ys k j (min (slice_index ys k) low) there same, each k)
  | inr other ↦ omega (arith, changed_there xs k j (min (slice_index xs k) high) other, changed_there ys k j (min (slice_index ys k) low) other, each j)
]

capped_le : (i : Instance) (low high : ℕ) → low ≤ high → capped i low ≤ capped i high
capped_le i low high le = omega arith

-- an order that is known after one more is known is old or the new one
order_kept : (a b : Precedence) (p q j k : ℕ) → p < a.processes → q < a.processes → p < b.processes → q < b.processes → IsTrue (goes_before (put_before b p q) p q) → (IsTrue (goes_before b j k) → IsTrue (goes_before (put_before b p q) j k)) → (IsTrue (goes_before a j k) → IsTrue (goes_before b j k)) → IsTrue (goes_before (put_before a p q) j k) → IsTrue (goes_before (put_before b p q) j k)
order_kept a b p q j k first second here there new old each is = elim (put_only a p q j k first second is) [
  | inl before ↦ old (each before)
  | inr pair ↦ rw (pair.0, pair.1) new
]

pub IsSharper-stronger : (i : Instance) (f h : Known) (j k : Conclusion) → Fits i f → Fits i h → IsSharper f h → IsAbout i k → IsStronger j k → IsSharper (sharpened i f k) (sharpened i h j)
IsSharper-stronger i f h (StartsFrom p late) k fits inner_fits is about stronger =
    let there : p < length i.processes = rw stronger.1 at about in
    rw stronger.1 (record {
      es = rise f.es h.es p (capped i stronger.0) (capped i late) (omega (arith, fits.es, there)) (omega (arith, inner_fits.es, there)) (capped_le i stronger.0 late stronger.2) is.es;
      le = is.le;
      lo = is.lo;
      top = is.top;
      bef = is.bef;
      closed = is.closed;
    })
IsSharper-stronger i f h (EndsUntil p early) k fits inner_fits is about stronger =
    let there : p < length i.processes = rw stronger.1 at about in
    rw stronger.1 (record {
      es = is.es;
      le = fall f.le h.le p early stronger.0 (omega (arith, fits.le, there)) (omega (arith, inner_fits.le, there)) stronger.2 is.le;
      lo = is.lo;
      top = is.top;
      bef = is.bef;
      closed = is.closed;
    })
IsSharper-stronger i f h (SentFrom m late) k fits inner_fits is about stronger =
    let there : m < length i.messages = rw stronger.1 at about in
    rw stronger.1 (record {
      es = is.es;
      le = is.le;
      lo = rise f.lo h.lo m (capped i stronger.0) (capped i late) (omega (arith, fits.lo, there)) (omega (arith, inner_fits.lo, there)) (capped_le i stronger.0 late stronger.2) is.lo;
      top = is.top;
      bef = is.bef;
      closed = is.closed;
    })
IsSharper-stronger i f h (SentBefore m early) k fits inner_fits is about stronger =
    let there : m < length i.messages = rw stronger.1 at about in
    rw stronger.1 (record {
      es = is.es;
      le = is.le;
      lo = is.lo;
      top = fall f.top h.top m early stronger.0 (omega (arith, fits.top, there)) (omega (arith, inner_fits.top, there)) stronger.2 is.top;
      bef = is.bef;
      closed = is.closed;
    })
IsSharper-stronger i f h (GoesFirst p q) k fits inner_fits is about stronger =
    let there : (p < length i.processes) × (q < length i.processes) = rw stronger at about in
    let first : p < f.bef.processes = omega (arith, fits.processes, there.0) in
    let second : q < f.bef.processes = omega (arith, fits.processes, there.1) in
    let here : p < h.bef.processes = omega (arith, inner_fits.processes, there.0) in
    let also : q < h.bef.processes = omega (arith, inner_fits.processes, there.1) in
    let size : length h.bef.tests ≡ h.bef.processes * h.bef.processes = rw inner_fits.processes inner_fits.tests in
    rw stronger (record {
      es = is.es;
      le = is.le;
      lo = is.lo;
      top = is.top;
      bef = λ x y. order_kept f.bef h.bef p q x y first second here also (put_same h.bef p q here also size) (put_kept h.bef p q x y here also size) (is.bef x y);
      closed = is.closed;
    })
IsSharper-stronger i f h NothingLeft k fits inner_fits is about stronger = rw stronger (record {
  es = is.es;
  le = is.le;
  lo = is.lo;
  top = is.top;
  bef = is.bef;
  closed = λ closed. refl;
})

-- and no plan is left after both or after none
pub closed_alike : (i : Instance) (f h : Known) (j k : Conclusion) → h.closed ≡ f.closed → IsStronger j k → (sharpened i h j).closed ≡ (sharpened i f k).closed
closed_alike i f h (StartsFrom p late) k same stronger = rw stronger.1 same
closed_alike i f h (EndsUntil p early) k same stronger = rw stronger.1 same
closed_alike i f h (SentFrom m late) k same stronger = rw stronger.1 same
closed_alike i f h (SentBefore m early) k same stronger = rw stronger.1 same
closed_alike i f h (GoesFirst p q) k same stronger = rw stronger same
closed_alike i f h NothingLeft k same stronger = rw stronger refl
