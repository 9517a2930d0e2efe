-- How old what a chain carries is, in one cycle and in all.
use Rattle.std.proofs.Common.{◌≡◌, ◌∙◌, ℕ, zero, suc, ◌+◌, ◌-◌, ◌*◌, ◌/◌, ◌<◌, ◌≤◌, Bool, true, false, List, [], ◌∷◌, if◌then◌else◌, length, slice_index, All, arith, inl, inr, refl, sym, ap}
use Rattle.std.proofs.lemmas.Nat.{le-div, mul-le}
use Rattle.rates_model.specs.Rates.{Rates, period_of, process_at}
use Rattle.rates_model.specs.Cycles.{cycle, jobs_of}
use Rattle.rates_model.specs.Reads.{job_from_all, last_begun, leads}
use Rattle.rates_model.specs.Ages.{carried, release_from_all, wait_of}
use Rattle.rates_model.specs.Rules.{IsRates}
use Rattle.rates_model.proofs.Periods.{jobs_whole}
use Rattle.endless_schedules.specs.Carried.{Carries}
use Rattle.endless_schedules.proofs.ReadJobs.{begun_later, some_period}

-- the last of a list
abbrev pub IsLast : List ℕ → ℕ → Type 0
IsLast [] l = ⊥
IsLast (p ∷ []) l = p ≡ l
IsLast (p ∷ q ∷ ps) l = IsLast (q ∷ ps) l

pub last_is : (xs : List ℕ) → 0 < length xs → IsLast xs (slice_index xs (length xs - 1))
last_is [] some = absurd (omega (arith, some))
last_is (p ∷ []) some = refl
last_is (p ∷ q ∷ ps) some =
    let back : length (p ∷ q ∷ ps) - 1 ≡ suc (length (q ∷ ps) - 1) = omega arith in
    rw back (last_is (q ∷ ps) (omega arith))

-- none or one
one_at_most : (b : Bool) → (if b then 1 else 0) ≤ 1
one_at_most true = omega arith
one_at_most false = omega arith

module _ (rho : Rates) (w : IsRates rho) where
  -- all are processes that are there
  abbrev pub AreThere : List ℕ → Type 0
  AreThere xs = All (λ p. p < length rho.processes) xs

  head_there : (p : ℕ) (ps : List ℕ) → AreThere (p ∷ ps) → p < length rho.processes
  head_there p ps there = there 0 0 (omega arith)

  tail_there : (p : ℕ) (ps : List ℕ) → AreThere (p ∷ ps) → AreThere ps
  tail_there p ps there k d inside = there (suc k) d (omega (arith, inside))

  -- e cycles later all is e cycles later
  pub carries_later : (xs : List ℕ) (l : ℕ) → IsLast xs l → AreThere xs → (e j k : ℕ) → Carries rho xs j k → Carries rho xs (e * jobs_of rho l + j) (e * jobs_of rho (slice_index xs 0) + k)
  carries_later [] l last there e j k has = absurd last
  carries_later (p ∷ []) l last there e j k has = omega (arith, has, ap (λ x. e * jobs_of rho x) last)
  carries_later (p ∷ q ∷ ps) l last there e j k has =
      let rest = carries_later (q ∷ ps) l last (tail_there p (q ∷ ps) there) e j has.0 has.1 in
      let moved = begun_later rho w p q (head_there p (q ∷ ps) there) (head_there q ps (tail_there p (q ∷ ps) there)) e has.0 in
      (e * jobs_of rho q + has.0, rest, omega (arith, has.2, moved))

  -- a job carries the value of one job
  pub one_carried : (xs : List ℕ) (i j k l : ℕ) → i ≡ j → Carries rho xs i k → Carries rho xs j l → k ≡ l
  one_carried [] i j k l same first second = absurd first
  one_carried (p ∷ []) i j k l same first second = omega (arith, same, first, second)
  one_carried (p ∷ q ∷ ps) i j k l same first second =
      let rest = one_carried (q ∷ ps) i j first.0 second.0 same first.1 second.1 in
      omega (arith, first.2, second.2, ap (last_begun rho p q) rest)

  -- some job in a cycle
  pub some_jobs : 0 < cycle rho → (p : ℕ) → p < length rho.processes → 0 < jobs_of rho p
  some_jobs some p inside = positive (jobs_of rho p) (period_of rho p) (omega (arith, some, jobs_whole rho w p inside))
    where
      positive : (a b : ℕ) → 0 < a * b → 0 < a
      positive zero b h = absurd (omega (arith, h))
      positive (suc a) b h = omega arith

  -- so many cycles on, each process on the way reads a job that is there
  pub far_enough : 0 < cycle rho → (xs : List ℕ) (l : ℕ) → IsLast xs l → AreThere xs → (c j : ℕ) → (c + length xs) * jobs_of rho l ≤ j
      → Carries rho xs j (carried rho xs j) × (c * jobs_of rho (slice_index xs 0) ≤ carried rho xs j)
  far_enough some [] l last there c j far = absurd last
  far_enough some (p ∷ []) l last there c j far = (refl, omega (arith, far, ap (λ x. c * jobs_of rho x) last))
  far_enough some (p ∷ q ∷ ps) l last there c j far =
      let hp = head_there p (q ∷ ps) there in
      let hq = head_there q ps (tail_there p (q ∷ ps) there) in
      let rest = far_enough some (q ∷ ps) l last (tail_there p (q ∷ ps) there) (suc c) j (omega (arith, far)) in
      let i = carried rho (q ∷ ps) j in
      let ticks : (suc c * jobs_of rho q) * period_of rho q ≤ i * period_of rho q = mul-le (suc c * jobs_of rho q) (period_of rho q) i (period_of rho q) rest.1 (omega arith) in
      let same : suc c * (jobs_of rho p * period_of rho p) ≡ suc c * (jobs_of rho q * period_of rho q) = ap (λ x. suc c * x) (jobs_whole rho w p hp ∙ sym (jobs_whole rho w q hq)) in
      let begun : suc c * jobs_of rho p ≤ last_begun rho p q i = le-div (suc c * jobs_of rho p) (i * period_of rho q) (period_of rho p) (some_period rho w p hp) (omega (arith, ticks, same)) in
      let short : wait_of rho p q ≤ 1 = one_at_most (leads rho p q 1) in
      let one = some_jobs some p hp in
      ((i, rest.0, omega (arith, begun, short, one)), omega (arith, begun, short, one))

  -- what a chain may be old, for one of its jobs that ends after so many ticks of its cycle
  module _ (xs : List ℕ) (l age ends : ℕ) (last : IsLast xs l) (there : AreThere xs) (some : 0 < cycle rho) (runs : 1 ≤ ends) where
    abbrev first : ℕ
    first = slice_index xs 0

    -- so many cycles on
    abbrev back : ℕ
    back = 2 * length xs

    abbrev carried_back : ℕ → ℕ
    carried_back j = carried rho xs (job_from_all rho l back j)

    first_there : first < length rho.processes
    first_there = of_first xs last there
      where
        of_first : (ys : List ℕ) → IsLast ys l → AreThere ys → slice_index ys 0 < length rho.processes
        of_first [] is inside = absurd is
        of_first (p ∷ ps) is inside = head_there p ps inside

    far : (j : ℕ) → Carries rho xs (job_from_all rho l back j) (carried_back j)
    far j = (far_enough some xs l last there (length xs) (job_from_all rho l back j) (omega arith)).0

    pub young_for_ever : (c j k : ℕ) → ends ≤ age + release_from_all rho first (carried_back j) - back * cycle rho → Carries rho xs (job_from_all rho l c j) k
        → c * cycle rho + ends ≤ age + release_from_all rho first k
    young_for_ever c j k young has =
        let here = carries_later xs l last there c (job_from_all rho l back j) (carried_back j) (far j) in
        let later = carries_later xs l last there back (job_from_all rho l c j) k has in
        let same : c * jobs_of rho first + carried_back j ≡ back * jobs_of rho first + k = one_carried xs (c * jobs_of rho l + job_from_all rho l back j) (back * jobs_of rho l + job_from_all rho l c j) (c * jobs_of rho first + carried_back j) (back * jobs_of rho first + k) (omega arith) here later in
        let ticks : (c * jobs_of rho first + carried_back j) * period_of rho first ≡ (back * jobs_of rho first + k) * period_of rho first = ap (λ x. x * period_of rho first) same in
        let one : c * (jobs_of rho first * period_of rho first) ≡ c * cycle rho = ap (λ x. c * x) (jobs_whole rho w first first_there) in
        let two : back * (jobs_of rho first * period_of rho first) ≡ back * cycle rho = ap (λ x. back * x) (jobs_whole rho w first first_there) in
        let fits : ends + back * cycle rho ≤ age + release_from_all rho first (carried_back j) = omega (arith, young, runs) in
        omega (arith, fits, ticks, one, two)

    pub young_in_one : (j : ℕ) → ((c k : ℕ) → Carries rho xs (job_from_all rho l c j) k → c * cycle rho + ends ≤ age + release_from_all rho first k)
        → ends ≤ age + release_from_all rho first (carried_back j) - back * cycle rho
    young_in_one j all = omega (arith, all back (carried_back j) (far j))
