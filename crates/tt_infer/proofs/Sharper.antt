-- A conclusion only sharpens what is known.
use Rattle.std.proofs.Common.{ℕ, ◌<◌, ◌≤◌, min, max, List, length, slice_index, slice_set, arith, inl, inr, refl, ap}
use Rattle.std.proofs.lemmas.Bool.{cases_eq}
use Rattle.ttp_model.specs.declared.step.Step.{Step}
use Rattle.ttp_model.specs.Instance.{Instance}
use Rattle.ttp_model.specs.Rules.{IsInstance}
use Rattle.tt_choice.specs.Choice.{Choice}
use Rattle.tt_choice.proofs.Before.{put_kept}
use Rattle.sought_plans.specs.Known.{Known, Fits}
use Rattle.sought_plans.specs.Conclusions.{Conclusion, StartsFrom, EndsUntil, SentFrom, SentBefore, GoesFirst, NothingLeft, IsAbout, sharpened, capped}
use Rattle.tt_infer.specs.Table.{IsLawful}
pub use Rattle.tt_infer.specs.Sharper.{IsSharper}
use Rattle.tt_infer.proofs.Keeps.{changed_here, changed_there}
use Rattle.tt_infer.proofs.Sound.{step_is_about}

rises : (xs : List ℕ) (k low : ℕ) → k < length xs → (j : ℕ) → slice_index xs j ≤ slice_index (slice_set xs k (max (slice_index xs k) low)) j
rises xs k low there j = elim (cases_eq j k) [
  | inl same ↦ omega (arith, changed_here xs k j (max (slice_index xs k) low) there same, ap (slice_index xs) same)
  | inr other ↦ omega (arith, changed_there xs k j (max (slice_index xs k) low) other)
]

falls : (xs : List ℕ) (k high : ℕ) → k < length xs → (j : ℕ) → slice_index (slice_set xs k (min (slice_index xs k) high)) j ≤ slice_index xs j
falls xs k high there j = elim (cases_eq j k) [
  | inl same ↦ omega (arith, changed_here xs k j (min (slice_index xs k) high) there same, ap (slice_index xs) same)
  | inr other ↦ omega (arith, changed_there xs k j (min (slice_index xs k) high) other)
]

alike : (xs : List ℕ) (j : ℕ) → slice_index xs j ≤ slice_index xs j
alike xs j = omega arith

IsSharper-sharpened : (i : Instance) (f : Known) (k : Conclusion) → Fits i f → IsAbout i k → IsSharper f (sharpened i f k)
IsSharper-sharpened i f (StartsFrom p time) fits there = record {
  es = rises f.es p (capped i time) (omega (arith, fits.es, there));
  le = alike f.le;
  lo = alike f.lo;
  top = alike f.top;
  bef = λ p q is. is;
  closed = λ is. is;
}
IsSharper-sharpened i f (EndsUntil p time) fits there = record {
  es = alike f.es;
  le = falls f.le p time (omega (arith, fits.le, there));
  lo = alike f.lo;
  top = alike f.top;
  bef = λ p q is. is;
  closed = λ is. is;
}
IsSharper-sharpened i f (SentFrom m r) fits there = record {
  es = alike f.es;
  le = alike f.le;
  lo = rises f.lo m (capped i r) (omega (arith, fits.lo, there));
  top = alike f.top;
  bef = λ p q is. is;
  closed = λ is. is;
}
IsSharper-sharpened i f (SentBefore m r) fits there = record {
  es = alike f.es;
  le = alike f.le;
  lo = alike f.lo;
  top = falls f.top m r (omega (arith, fits.top, there));
  bef = λ p q is. is;
  closed = λ is. is;
}
IsSharper-sharpened i f (GoesFirst p q) fits there = record {
  es = alike f.es;
  le = alike f.le;
  lo = alike f.lo;
  top = alike f.top;
  bef = λ j k is. put_kept f.bef p q j k (omega (arith, fits.processes, there.0)) (omega (arith, fits.processes, there.1)) (rw fits.processes fits.tests) is;
  closed = λ is. is;
}
IsSharper-sharpened i f NothingLeft fits there = record {
  es = alike f.es;
  le = alike f.le;
  lo = alike f.lo;
  top = alike f.top;
  bef = λ p q is. is;
  closed = λ is. refl;
}

pub IsSharper-step : (i : Instance) (c : Choice) (goal : ℕ) (f : Known) (step : Step) (g : Known) → IsInstance i → Fits i f → IsLawful i c goal f step g → IsSharper f g
IsSharper-step i c goal f step g w fits lawful =
    let there = step_is_about i c goal f step lawful.conclusion w lawful.there lawful.premise lawful.concludes in
    rw lawful.known (IsSharper-sharpened i f lawful.conclusion fits there)
