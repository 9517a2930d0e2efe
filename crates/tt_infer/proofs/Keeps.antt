-- What is known stays true where a conclusion that sharpens it is true.
use Rattle.std.proofs.Common.{◌≡◌, ◌≢◌, ℕ, suc, ◌<◌, ◌≤◌, min, max, List, length, slice_index, slice_set, arith, inl, inr, ◌∙◌, ap, length-set}
use Rattle.std.proofs.lemmas.Bool.{cases_eq}
use Rattle.std.proofs.lemmas.Grind.{common_steps}
use Rattle.ttp_model.specs.declared.plan.Plan.{Plan}
use Rattle.ttp_model.specs.Instance.{Instance}
use Rattle.ttp_model.specs.Plans.{start_of, end_of, round_of}
use Rattle.tt_choice.proofs.Before.{put_only}
use Rattle.sought_plans.specs.Known.{Known, Fits, AreTrueOf}
use Rattle.sought_plans.specs.Conclusions.{Conclusion, StartsFrom, EndsUntil, SentFrom, SentBefore, GoesFirst, NothingLeft, IsTrueOf, IsAbout, sharpened, capped}

pub changed_here : (xs : List ℕ) (k j x : ℕ) → k < length xs → j ≡ k → slice_index (slice_set xs k x) j ≡ x
changed_here xs k j x h same = grind (arith, common_steps)

pub changed_there : (xs : List ℕ) (k j x : ℕ) → j ≢ k → slice_index (slice_set xs k x) j ≡ slice_index xs j
changed_there xs k j x h = grind (arith, common_steps)

-- lower bounds of a list of times or rounds stay so where one of them rises
raised : (xs : List ℕ) (time : ℕ → ℕ) (count k low : ℕ) → length xs ≡ count → k < count → low ≤ time k → ((j : ℕ) → j < count → slice_index xs j ≤ time j) → (j : ℕ) → j < count → slice_index (slice_set xs k (max (slice_index xs k) low)) j ≤ time j
raised xs time count k low size there h old j hj = elim (cases_eq j k) [
  | inl same ↦ omega (arith, changed_here xs k j (max (slice_index xs k) low) (omega (arith, size, there)) same, old k there, h, ap time same)
  | inr other ↦ omega (arith, changed_there xs k j (max (slice_index xs k) low) other, old j hj)
]

-- and upper bounds where one of them falls
lowered : (xs : List ℕ) (time : ℕ → ℕ) (count k high : ℕ) → length xs ≡ count → k < count → time k ≤ high → ((j : ℕ) → j < count → time j ≤ slice_index xs j) → (j : ℕ) → j < count → time j ≤ slice_index (slice_set xs k (min (slice_index xs k) high)) j
lowered xs time count k high size there h old j hj = elim (cases_eq j k) [
  | inl same ↦ omega (arith, changed_here xs k j (min (slice_index xs k) high) (omega (arith, size, there)) same, old k there, h, ap time same)
  | inr other ↦ omega (arith, changed_there xs k j (min (slice_index xs k) high) other, old j hj)
]

pub AreTrueOf-sharpened : (i : Instance) (plan : Plan) (f : Known) (k : Conclusion) → Fits i f → AreTrueOf i plan f → IsAbout i k → IsTrueOf i plan k → AreTrueOf i plan (sharpened i f k)
AreTrueOf-sharpened i plan f (StartsFrom p time) fits t about h = record {
  es = raised f.es (start_of plan) (length i.processes) p (capped i time) fits.es about (omega (arith, h)) t.es;
  le = t.le;
  lo = t.lo;
  top = t.top;
  bef = t.bef;
  some_left = t.some_left;
}
AreTrueOf-sharpened i plan f (EndsUntil p time) fits t about h = record {
  es = t.es;
  le = lowered f.le (end_of i plan) (length i.processes) p time fits.le about h t.le;
  lo = t.lo;
  top = t.top;
  bef = t.bef;
  some_left = t.some_left;
}
AreTrueOf-sharpened i plan f (SentFrom m r) fits t about h = record {
  es = t.es;
  le = t.le;
  lo = raised f.lo (round_of plan) (length i.messages) m (capped i r) fits.lo about (omega (arith, h)) t.lo;
  top = t.top;
  bef = t.bef;
  some_left = t.some_left;
}
AreTrueOf-sharpened i plan f (SentBefore m r) fits t about h = record {
  es = t.es;
  le = t.le;
  lo = t.lo;
  top = λ j hj. lowered f.top (λ k. suc (round_of plan k)) (length i.messages) m r fits.top about (omega (arith, h)) (λ k hk. omega (arith, t.top k hk)) j hj;
  bef = t.bef;
  some_left = t.some_left;
}
AreTrueOf-sharpened i plan f (GoesFirst p q) fits t about h = record {
  es = t.es;
  le = t.le;
  lo = t.lo;
  top = t.top;
  bef = λ j k is. elim (put_only f.bef p q j k (omega (arith, fits.processes, about.0)) (omega (arith, fits.processes, about.1)) is) [
    | inl old ↦ t.bef j k old
    | inr new ↦ omega (arith, h, ap (end_of i plan) new.0, ap (start_of plan) new.1)
  ];
  some_left = t.some_left;
}
AreTrueOf-sharpened i plan f NothingLeft fits t about h = absurd h

pub Fits-sharpened : (i : Instance) (f : Known) (k : Conclusion) → Fits i f → Fits i (sharpened i f k)
Fits-sharpened i f (StartsFrom p time) h = record { es = length-set _ _ _ ∙ h.es; le = h.le; lo = h.lo; top = h.top; processes = h.processes; tests = h.tests }
Fits-sharpened i f (EndsUntil p time) h = record { es = h.es; le = length-set _ _ _ ∙ h.le; lo = h.lo; top = h.top; processes = h.processes; tests = h.tests }
Fits-sharpened i f (SentFrom m r) h = record { es = h.es; le = h.le; lo = length-set _ _ _ ∙ h.lo; top = h.top; processes = h.processes; tests = h.tests }
Fits-sharpened i f (SentBefore m r) h = record { es = h.es; le = h.le; lo = h.lo; top = length-set _ _ _ ∙ h.top; processes = h.processes; tests = h.tests }
Fits-sharpened i f (GoesFirst p q) h = record { es = h.es; le = h.le; lo = h.lo; top = h.top; processes = h.processes; tests = length-set _ _ _ ∙ h.tests }
Fits-sharpened i f NothingLeft h = record { es = h.es; le = h.le; lo = h.lo; top = h.top; processes = h.processes; tests = h.tests }
