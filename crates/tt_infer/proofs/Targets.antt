-- A conclusion that leaves the value of its fact leaves all that is known.
use Rattle.std.proofs.Common.{◌≡◌, ℕ, ◌<◌, List, length, slice_index, slice_set, Bool, true, false, if◌then◌else◌, arith, refl, ap, sym, ◌∙◌, get_or-set_same}
use Rattle.std.proofs.lemmas.List.{set-get_or}
use Rattle.ttp_model.specs.Instance.{Instance}
use Rattle.tt_choice.specs.Precedence.{place_in, put_before}
use Rattle.tt_choice.proofs.Before.{put_same, test_of}
use Rattle.sought_plans.specs.Known.{Known, Fits, bef_of}
use Rattle.sought_plans.specs.Conclusions.{Conclusion, StartsFrom, EndsUntil, SentFrom, SentBefore, GoesFirst, NothingLeft, IsAbout, sharpened}
use Rattle.tt_infer.specs.Targets.{fact_of, known_value}

-- a test that counts as 1 holds
counts : (b : Bool) → ◌≡◌ {A = ℕ} 1 (if b then 1 else 0) → b ≡ true
counts true is = refl
counts false is = absurd (omega (arith, is))

kept : (xs : List ℕ) (k v : ℕ) → k < length xs → slice_index (slice_set xs k v) k ≡ slice_index xs k → slice_set xs k v ≡ xs
kept xs k v there same = ap (slice_set xs k) (sym (get_or-set_same xs k v 0 there) ∙ same) ∙ set-get_or xs k 0

-- where the test of p and q counts, it is put already
order_known : (i : Instance) (f : Known) (p q : ℕ) → Fits i f → p < length i.processes → q < length i.processes → known_value (sharpened i f (GoesFirst p q)) (fact_of (GoesFirst p q)) ≡ known_value f (fact_of (GoesFirst p q)) → bef_of f p q ≡ true
order_known i f p q fits first second same =
    let put = put_same f.bef p q (omega (arith, fits.processes, first)) (omega (arith, fits.processes, second)) (rw fits.processes fits.tests) in
    counts (bef_of f p q) (sym (ap {B = ℕ} (λ (b : Bool). if b then 1 else 0) put) ∙ same)

tests_kept : (i : Instance) (f : Known) (p q : ℕ) → Fits i f → p < length i.processes → q < length i.processes → bef_of f p q ≡ true → put_before f.bef p q ≡ f.bef
tests_kept i f p q fits first second holds =
    let test = test_of f.bef p q (omega (arith, fits.processes, first)) (omega (arith, fits.processes, second)) in
    ap (λ (tests : List Bool). record f.bef { tests = tests }) (ap (slice_set f.bef.tests (place_in f.bef p q)) (sym holds ∙ test) ∙ set-get_or f.bef.tests (place_in f.bef p q) false)

pub stays : (i : Instance) (f : Known) (k : Conclusion) → Fits i f → IsAbout i k → known_value (sharpened i f k) (fact_of k) ≡ known_value f (fact_of k) → sharpened i f k ≡ f
stays i f (StartsFrom p time) fits there same = ap (λ (xs : List ℕ). record f { es = xs }) (kept f.es p _ (omega (arith, fits.es, there)) same)
stays i f (EndsUntil p time) fits there same = ap (λ (xs : List ℕ). record f { le = xs }) (kept f.le p _ (omega (arith, fits.le, there)) same)
stays i f (SentFrom m r) fits there same = ap (λ (xs : List ℕ). record f { lo = xs }) (kept f.lo m _ (omega (arith, fits.lo, there)) same)
stays i f (SentBefore m r) fits there same = ap (λ (xs : List ℕ). record f { top = xs }) (kept f.top m _ (omega (arith, fits.top, there)) same)
stays i f (GoesFirst p q) fits there same = ap (λ b. record f { bef = b }) (tests_kept i f p q fits there.0 there.1 (order_known i f p q fits there.0 there.1 same))
stays i f NothingLeft fits there same = ap (λ (b : Bool). record f { closed = b }) (sym (counts f.closed same))
