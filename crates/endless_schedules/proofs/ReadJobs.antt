-- Which job of which cycle it is that is read.
use Rattle.std.proofs.Common.{◌≡◌, ◌∙◌, ℕ, suc, ◌+◌, ◌*◌, ◌/◌, ◌%◌, ◌<◌, ◌≤◌, ◌⊎◌, length, arith, inl, inr, refl, sym, ap}
use Rattle.std.proofs.Math.Nat.{mul-le-mul_left}
use Rattle.std.proofs.lemmas.Bool.{cases_eq, cases_order}
use Rattle.std.proofs.lemmas.Nat.{div-add-mod', div-mul-add, div_below, mod_below}
use Rattle.rates_model.specs.declared.error.RatesPlace.TheVariants.{AtProcess}
use Rattle.rates_model.specs.Rates.{Rates, period_of}
use Rattle.rates_model.specs.Cycles.{cycle, jobs_of}
use Rattle.rates_model.specs.Reads.{job_from_all, last_begun}
use Rattle.rates_model.specs.Rules.{IsRates}
use Rattle.rates_model.proofs.Periods.{jobs_whole}
use Rattle.endless_schedules.specs.Endless.{ReadsIn}

-- c cycles later it is a job that many cycles later
shifted : (np tp nq tq c j : ℕ) → 0 < tp → np * tp ≡ nq * tq → (c * nq + j) * tq / tp ≡ c * np + j * tq / tp
shifted np tp nq tq c j some same =
    let whole = div-add-mod' (j * tq) tp in
    let times : c * (np * tp) ≡ c * (nq * tq) = ap (λ x. c * x) same in
    let is : (c * nq + j) * tq ≡ (c * np + j * tq / tp) * tp + j * tq % tp = omega (arith, whole, times) in
    ap (λ x. x / tp) is ∙ div-mul-add (c * np + j * tq / tp) tp (j * tq % tp) (mod_below (j * tq) tp some)

last_below : (np tp nq tq j : ℕ) → 0 < tp → 0 < tq → np * tp ≡ nq * tq → j < nq → j * tq / tp < np
last_below np tp nq tq j some other same below =
    let more : tq * suc j ≤ tq * nq = mul-le-mul_left tq below in
    div_below (j * tq) tp np some (omega (arith, more, same, other))

-- n jobs a cycle; b is the last that has begun, of cycle c
told : (n delay c b d k : ℕ) → delay ≤ 1 → b < n → k < n → d * n + k + delay ≡ c * n + b
    → ((d ≡ c) × (k + delay ≡ b)) ⊎ ((suc d ≡ c) × (b ≡ 0) × (k + 1 ≡ n) × (delay ≡ 1))
told n delay c b d k short begun inside same = elim (cases_order d c) [
  | inl is ↦ (let moved = ap (λ x. x * n) is in inl (is, omega (arith, same, moved)))
  | inr other ↦ elim other [
    | inl earlier ↦
        let next : n * suc d ≤ n * c = mul-le-mul_left n earlier in
        elim (cases_eq (suc d) c) [
          | inl is ↦
              let moved : n * suc d ≡ n * c = ap (λ x. n * x) is in
              inr (is, omega (arith, same, moved, short, inside), omega (arith, same, moved, short, inside), omega (arith, same, moved, short, inside))
          | inr far ↦
              let more : n * suc (suc d) ≤ n * c = mul-le-mul_left n (omega (arith, earlier, far)) in
              absurd (omega (arith, same, more, short, inside, begun))
        ]
    | inr later ↦
        let next : n * suc c ≤ n * d = mul-le-mul_left n later in
        absurd (omega (arith, same, next, begun))
  ]
]

module _ (rho : Rates) (w : IsRates rho) where
  pub some_period : (p : ℕ) → p < length rho.processes → 0 < period_of rho p
  some_period p inside = omega (arith, (w.ranges (AtProcess p) inside).0)

  module _ (p q : ℕ) (hp : p < length rho.processes) (hq : q < length rho.processes) where
    same_ticks : jobs_of rho p * period_of rho p ≡ jobs_of rho q * period_of rho q
    same_ticks = jobs_whole rho w p hp ∙ sym (jobs_whole rho w q hq)

    pub begun_later : (c j : ℕ) → last_begun rho p q (job_from_all rho q c j) ≡ job_from_all rho p c (last_begun rho p q j)
    begun_later c j = shifted (jobs_of rho p) (period_of rho p) (jobs_of rho q) (period_of rho q) c j (some_period p hp) same_ticks

    pub begun_below : (j : ℕ) → j < jobs_of rho q → last_begun rho p q j < jobs_of rho p
    begun_below j inside = last_below (jobs_of rho p) (period_of rho p) (jobs_of rho q) (period_of rho q) j (some_period p hp) (some_period q hq) same_ticks inside

    module _ (delay : ℕ) (short : delay ≤ 1) where
      pub read_tells : (c j d k : ℕ) → ReadsIn rho p q delay c j d k
          → ((d ≡ c) × (k + delay ≡ last_begun rho p q j)) ⊎ ((suc d ≡ c) × (last_begun rho p q j ≡ 0) × (k + 1 ≡ jobs_of rho p) × (delay ≡ 1))
      read_tells c j d k r = told (jobs_of rho p) delay c (last_begun rho p q j) d k short (begun_below j r.reader) r.read (r.reads ∙ begun_later c j)

      pub reads_same : (c j k : ℕ) → j < jobs_of rho q → k + delay ≡ last_begun rho p q j → ReadsIn rho p q delay c j c k
      reads_same c j k inside is = record {
        reader = inside;
        read = omega (arith, begun_below j inside, is);
        reads = omega (arith, begun_later c j, is);
      }

      pub reads_before : (c j k : ℕ) → j < jobs_of rho q → delay ≡ 1 → last_begun rho p q j ≡ 0 → k + 1 ≡ jobs_of rho p → ReadsIn rho p q delay (suc c) j c k
      reads_before c j k inside one none last = record {
        reader = inside;
        read = omega (arith, last);
        reads = omega (arith, begun_later (suc c) j, one, none, last);
      }
