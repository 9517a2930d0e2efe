-- In a plan that repeats rightly for ever each process of a chain starts behind the end of the one before it whose value it reads. So the last
-- one ends behind the release of the first one, and no chain has an age of 0.
use Rattle.std.proofs.Common.{◌≡◌, ◌∙◌, ℕ, zero, suc, ◌+◌, ◌-◌, ◌*◌, ◌/◌, ◌%◌, ◌<◌, ◌≤◌, ◌⊎◌, ◌&&◌, ◌==◌, Bool, true, false, List, [], ◌∷◌, if◌then◌else◌, length, slice_index, All, Contains, arith, inl, inr, refl, sym, ap, subst}
use Rattle.std.specs.List.{list_any}
use Rattle.std.proofs.Math.Nat.{div-mul-le_self}
use Rattle.std.proofs.lemmas.Bool.{eqb-true, or_cases}
use Rattle.std.proofs.lemmas.List.{get_or_default}
use Rattle.std.proofs.lemmas.List.Folds.{Any-from_list_any}
use Rattle.std.proofs.lemmas.Nat.{div-add-mod', mod_below}
use Rattle.ttp_model.specs.declared.error.Place.TheVariants as spot
use Rattle.ttp_model.specs.declared.plan.Plan.{Plan}
use Rattle.ttp_model.specs.Rules.{IsInstance}
use Rattle.ttp_model.proofs.ValidPlans.{greatest_each}
use Rattle.rates_model.specs.declared.parts.RatesLink.{RatesLink}
use Rattle.rates_model.specs.declared.parts.RatesMessage.{RatesMessage}
use Rattle.rates_model.specs.Rates.{Rates, chain_at, link_at, message_at, no_link, no_message, period_of, process_at}
use Rattle.rates_model.specs.Cycles.{cycle, jobs_of}
use Rattle.rates_model.specs.Reads.{Reads, job_from_all, last_begun, leads}
use Rattle.rates_model.specs.Ages.{first_of, last_of, wait_of}
use Rattle.rates_model.specs.Rules.{IsRates, ReadsOf}
use Rattle.rates_model.proofs.Periods.{jobs_whole}
use Rattle.endless_schedules.specs.Unrolled.{unrolled}
use Rattle.endless_schedules.specs.Carried.{Carries}
use Rattle.endless_schedules.specs.Endless.{IsEndless, ReadsIn, Receives}
use Rattle.endless_schedules.specs.Runs.{IsRun, Job, ends_at, place_of, starts_at}
use Rattle.endless_schedules.proofs.Chains.{IsLast, last_is}
use Rattle.endless_schedules.proofs.ReadJobs.{read_tells}
use Rattle.endless_schedules.proofs.RunPlaces.{place_inside, ticks_are}
use Rattle.endless_schedules.proofs.ForEver.{has_late_age, some_job}
use Rattle.endless_schedules.specs.Aging.{late_age, own_age}
use Rattle.endless_schedules.proofs.OwnAges.{all_there, some_last, some_through}

-- whether or not
two : (b : Bool) → (b ≡ true) ⊎ (b ≡ false)
two true = inl refl
two false = inr refl

three : (a b c : Bool) → (a && b && c) ≡ true → (a ≡ true) × (b ≡ true) × (c ≡ true)
three true true true is = (refl, refl, refl)
three true true false is = absurd cc
three true false c is = absurd cc
three false b c is = absurd cc

-- by how many periods what is read may be old
with_wait : (b : Bool) → b ≡ true → (k last : ℕ) → k + (if b then 1 else 0) ≡ last → k + 1 ≡ last
with_wait true late k last is = is
with_wait false late k last is = absurd cc

without_wait : (b : Bool) → b ≡ false → (k last : ℕ) → k + (if b then 1 else 0) ≡ last → k + 0 ≡ last
without_wait true now k last is = absurd cc
without_wait false now k last is = is

-- each but the first reads something of the one before it
abbrev ReadAlong : Rates → List ℕ → Type 0
ReadAlong rho [] = Unit {0}
ReadAlong rho (p ∷ []) = Unit {0}
ReadAlong rho (p ∷ q ∷ ps) = ReadsOf rho p q × ReadAlong rho (q ∷ ps)

read_along : (rho : Rates) (xs : List ℕ) → ((k : ℕ) → 1 ≤ k → k < length xs → ReadsOf rho (slice_index xs (k - 1)) (slice_index xs k)) → ReadAlong rho xs
read_along rho [] each = tt
read_along rho (p ∷ []) each = tt
read_along rho (p ∷ q ∷ ps) each = (each 1 (omega arith) (omega arith), read_along rho (q ∷ ps) behind)
  where
    behind : (k : ℕ) → 1 ≤ k → k < length (q ∷ ps) → ReadsOf rho (slice_index (q ∷ ps) (k - 1)) (slice_index (q ∷ ps) k)
    behind zero some inside = absurd (omega (arith, some))
    behind (suc k) some inside =
        let more : suc (suc k) - 1 ≡ suc k = omega arith in
        let less : suc k - 1 ≡ k = omega arith in
        let read = each (suc (suc k)) (omega arith) (omega (arith, inside)) in
        let of_last = subst (λ (i : ℕ). ReadsOf rho (slice_index (p ∷ q ∷ ps) i) (slice_index (q ∷ ps) (suc k))) more read in
        subst (λ (i : ℕ). ReadsOf rho (slice_index (q ∷ ps) i) (slice_index (q ∷ ps) (suc k))) (sym less) of_last

module _ (rho : Rates) (plan : Plan) (w : IsRates rho) (i : IsInstance (unrolled rho)) (endless : IsEndless rho plan) where
  -- a job takes a tick
  some_ticks : (p k : ℕ) → IsRun rho (Job p k) → 1 ≤ (process_at rho p).wcet
  some_ticks p k there =
      omega (arith, ticks_are rho (Job p k) there, (i.ranges (spot.AtProcess (place_of rho (Job p k))) (place_inside rho (Job p k) there)).wcet_least)

  -- one job reads another, of whatever cycles
  module _ (p q : ℕ) (hp : p < length rho.processes) (hq : q < length rho.processes) (c j d k : ℕ) (hj : j < jobs_of rho q) (hk : k < jobs_of rho p) where
    -- by a delay: what is read has ended with its period
    by_delay : Reads rho p q 1 (job_from_all rho q c j) (job_from_all rho p d k) → ends_at rho plan d (Job p k) ≤ starts_at rho plan c (Job q j)
    by_delay reads =
        let ended = endless.in_time d p k (hp, hk) in
        let started = endless.released c q j (hq, hj) in
        let room = w.rooms p hp in
        let begun = div-mul-le_self (job_from_all rho q c j * period_of rho q) (period_of rho p) in
        let moved : (job_from_all rho p d k + 1) * period_of rho p ≡ job_from_all rho q c j * period_of rho q / period_of rho p * period_of rho p
        = ap (λ (x : ℕ). x * period_of rho p) reads in
        let one : d * (jobs_of rho p * period_of rho p) ≡ d * cycle rho = ap (λ (x : ℕ). d * x) (jobs_whole rho w p hp) in
        let two : c * (jobs_of rho q * period_of rho q) ≡ c * cycle rho = ap (λ (x : ℕ). c * x) (jobs_whole rho w q hq) in
        omega (arith, ended, started, room.within, begun, moved, one, two)

    -- by a link or a message, of the last period that has begun
    by_link : (l : ℕ) → l < length rho.links → (link_at rho l).before ≡ p → (link_at rho l).after ≡ q → (link_at rho l).delay ≡ 0
        → Reads rho p q 0 (job_from_all rho q c j) (job_from_all rho p d k) → ends_at rho plan d (Job p k) ≤ starts_at rho plan c (Job q j)
    by_link l there before after none reads =
        let reading : ReadsIn rho p q 0 c j d k = record { reader = hj; read = hk; reads = reads } in
        let ways : ReadsIn rho (link_at rho l).before (link_at rho l).after (link_at rho l).delay c j d k
        = subst (λ (z : ℕ). ReadsIn rho (link_at rho l).before (link_at rho l).after z c j d k) (sym none)
        (subst (λ (z : ℕ). ReadsIn rho (link_at rho l).before z 0 c j d k) (sym after) (subst (λ (z : ℕ). ReadsIn rho z q 0 c j d k) (sym before) reading)) in
        subst (λ (z : ℕ). ends_at rho plan d (Job p k) ≤ starts_at rho plan c (Job z j)) after
        (subst (λ (z : ℕ). ends_at rho plan d (Job z k) ≤ starts_at rho plan c (Job (link_at rho l).after j)) before (endless.links l c j d k there ways))

    -- a message's receiver starts behind the slot, and that is behind the sender's end
    by_message : (m : ℕ) → m < length rho.messages → (message_at rho m).sender ≡ p → Contains (message_at rho m).receivers q → (message_at rho m).delay ≡ 0
        → Reads rho p q 0 (job_from_all rho q c j) (job_from_all rho p d k) → ends_at rho plan d (Job p k) ≤ starts_at rho plan c (Job q j)
    by_message m there sender receives none reads =
        let reading : ReadsIn rho p q 0 c j d k = record { reader = hj; read = hk; reads = reads } in
        elim (read_tells rho w p q hp hq 0 (omega arith) c j d k reading) [
          | inr later ↦ absurd (omega (arith, later.3))
          | inl now ↦
              let in_one : ReadsIn rho p q 0 c j c k = subst (λ (z : ℕ). ReadsIn rho p q 0 c j z k) now.0 reading in
              let sent : ReadsIn rho (message_at rho m).sender q (message_at rho m).delay c j c k
              = subst (λ (z : ℕ). ReadsIn rho (message_at rho m).sender q z c j c k) (sym none)
              (subst (λ (z : ℕ). ReadsIn rho z q 0 c j c k) (sym sender) in_one) in
              let it : Receives rho m q c j c k = record { there = there; receiver = receives; read = sent } in
              let ready = endless.ready m q c j c k it in
              let arrived = endless.arrived m q c j k it in
              let by : ends_at rho plan c (Job (message_at rho m).sender k) ≤ starts_at rho plan c (Job q j) = omega (arith, ready, arrived) in
              subst (λ (z : ℕ). ends_at rho plan z (Job p k) ≤ starts_at rho plan c (Job q j)) (sym now.0)
              (subst (λ (z : ℕ). ends_at rho plan c (Job z k) ≤ starts_at rho plan c (Job q j)) sender by)
        ]

    -- some link or some message leads from the one to the other
    by_either : leads rho p q 0 ≡ true → Reads rho p q 0 (job_from_all rho q c j) (job_from_all rho p d k)
        → ends_at rho plan d (Job p k) ≤ starts_at rho plan c (Job q j)
    by_either led reads = elim (or_cases _ _ led) [
      | inl link ↦
          let some = Any-from_list_any (λ (l : RatesLink). (l.before == p) && (l.after == q) && (l.delay == 0)) rho.links link in
          let is : link_at rho some.0 ≡ some.1 = get_or_default rho.links some.0 no_link some.1 some.2 ∙ some.3 in
          let parts = three (some.1.before == p) (some.1.after == q) (some.1.delay == 0) some.4 in
          by_link some.0 some.2
          (ap (λ (l : RatesLink). l.before) is ∙ eqb-true _ _ parts.0)
          (ap (λ (l : RatesLink). l.after) is ∙ eqb-true _ _ parts.1)
          (ap (λ (l : RatesLink). l.delay) is ∙ eqb-true _ _ parts.2) reads
      | inr message ↦
          let test = λ (m : RatesMessage). (m.sender == p) && (m.delay == 0) && list_any (λ (r : ℕ). r == q) m.receivers in
          let some = Any-from_list_any test rho.messages message in
          let is : message_at rho some.0 ≡ some.1 = get_or_default rho.messages some.0 no_message some.1 some.2 ∙ some.3 in
          let parts = three (some.1.sender == p) (some.1.delay == 0) (list_any (λ (r : ℕ). r == q) some.1.receivers) some.4 in
          by_message some.0 some.2
          (ap (λ (m : RatesMessage). m.sender) is ∙ eqb-true _ _ parts.0)
          (subst (λ (m : RatesMessage). Contains m.receivers q) (sym is) (received some.1.receivers parts.2))
          (ap (λ (m : RatesMessage). m.delay) is ∙ eqb-true _ _ parts.1) reads
    ]
      where
        received : (receivers : List ℕ) → list_any (λ (r : ℕ). r == q) receivers ≡ true → Contains receivers q
        received receivers any =
            let some = Any-from_list_any (λ (r : ℕ). r == q) receivers any in
            (some.0, some.2, get_or_default receivers some.0 q some.1 some.2 ∙ some.3 ∙ eqb-true _ _ some.4)

    -- what is read has ended when its reader starts
    pub ends_before : ReadsOf rho p q → Reads rho p q (wait_of rho p q) (job_from_all rho q c j) (job_from_all rho p d k)
        → ends_at rho plan d (Job p k) ≤ starts_at rho plan c (Job q j)
    ends_before some reads = elim (two (leads rho p q 1)) [
      | inl late ↦ by_delay (with_wait (leads rho p q 1) late _ _ reads)
      | inr now ↦ elim (or_cases (leads rho p q 0) (leads rho p q 1) some) [
        | inl led ↦ by_either led (without_wait (leads rho p q 1) now _ _ reads)
        | inr late ↦ absurd cc
      ]
    ]

  -- the job of the first process whose value is carried starts before the last one's ends
  later : (xs : List ℕ) → All (λ p. p < length rho.processes) xs → ReadAlong rho xs → (l : ℕ) → IsLast xs l → (c j carry : ℕ) → j < jobs_of rho l
      → Carries rho xs (job_from_all rho l c j) carry
      → (d : ℕ) × (k : ℕ) × (k < jobs_of rho (slice_index xs 0)) × (carry ≡ job_from_all rho (slice_index xs 0) d k)
      × (starts_at rho plan d (Job (slice_index xs 0) k) < ends_at rho plan c (Job l j))
  later [] there along l last c j carry hj has = absurd last
  later (p ∷ []) there along l last c j carry hj has =
      let hl : l < length rho.processes = subst (λ (z : ℕ). z < length rho.processes) last (there 0 0 (omega arith)) in
      let ticks = some_ticks l j (hl, hj) in
      let runs : starts_at rho plan c (Job l j) < ends_at rho plan c (Job l j) = omega (arith, ticks) in (
        c,
        j,
        subst (λ (z : ℕ). j < jobs_of rho z) (sym last) hj,
        subst (λ (z : ℕ). carry ≡ job_from_all rho z c j) (sym last) (sym has),
        subst (λ (z : ℕ). starts_at rho plan c (Job z j) < ends_at rho plan c (Job l j)) (sym last) runs,
      )
  later (p ∷ q ∷ ps) there along l last c j carry hj has =
      let hp : p < length rho.processes = there 0 0 (omega arith) in
      let hq : q < length rho.processes = there 1 0 (omega arith) in
      let rest = later (q ∷ ps) (λ k d inside. there (suc k) d (omega (arith, inside))) along.1 l last c j has.0 hj has.1 in
      let n = jobs_of rho p in
      let d = carry / n in
      let k = carry % n in
      let hk : k < n = mod_below carry n (some_job rho plan w p hp) in
      let whole : d * n + k ≡ carry = div-add-mod' carry n in
      let reads : Reads rho p q (wait_of rho p q) (job_from_all rho q rest.0 rest.1) (job_from_all rho p d k)
      = omega (arith, whole, has.2, ap (last_begun rho p q) rest.3) in
      let before = ends_before p q hp hq rest.0 rest.1 d k rest.2 hk along.0 reads in
      (d, k, hk, sym whole, omega (arith, before, rest.4))

  -- so no age is 0
  pub some_age : (x : ℕ) → x < length rho.chains → 1 ≤ own_age rho x plan
  some_age x inside =
      let chain = chain_at rho x in
      let some = some_through rho x w inside in
      let all = all_there rho x w inside in
      let jobs = some_last rho x w inside plan in
      let has = has_late_age rho plan w chain some all 0 jobs in
      let along = read_along rho chain.through (w.chains x inside) in
      let at = later chain.through all along (last_of chain) (last_is chain.through some) has.cycle has.job has.first has.there has.carries in
      let first = first_of chain in
      let there : first < length rho.processes = all 0 0 some in
      let released = endless.released at.0 first at.1 (there, at.2) in
      let whole : at.0 * (jobs_of rho first * period_of rho first) ≡ at.0 * cycle rho = ap (λ (t : ℕ). at.0 * t) (jobs_whole rho w first there) in
      let ticks : has.first * period_of rho first ≡ job_from_all rho first at.0 at.1 * period_of rho first = ap (λ (t : ℕ). t * period_of rho first) at.3 in
      let greatest = greatest_each (late_age rho plan chain) (jobs_of rho (last_of chain)) 0 jobs in
      omega (arith, released, whole, ticks, at.4, greatest)
