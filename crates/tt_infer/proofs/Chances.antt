-- A step whose premise holds concludes something: there is a first chance, chances can be counted, and there is a
-- greatest wait.
use Rattle.std.proofs.Common.{◌≡◌, ℕ, zero, suc, ◌+◌, ◌<◌, ◌≤◌, nat_le, length, Bool, true, false, arith, inl, inr, ◌⊎◌, refl}
use Rattle.std.proofs.lemmas.Bool.{cases_Bool, cases_order, leb-true, leb-false, le-leb, both_ways}
use Rattle.std.proofs.Math.Nat.{mul-le-mul_left}
use Rattle.ttp_model.specs.declared.step.Step.{Step}
use Rattle.ttp_model.specs.declared.step.Step.TheVariants.{LoSend, HiArrive, UsSettled}
use Rattle.ttp_model.specs.declared.error.Place.TheVariants.{AtCluster}
use Rattle.ttp_model.specs.Instance.{Instance, source_of}
use Rattle.ttp_model.specs.Rules.{IsInstance}
use Rattle.ttp_model.specs.Totals.{total}
use Rattle.ttp_model.proofs.Totals.{term_in_total}
use Rattle.tt_choice.specs.Choice.{Choice}
use Rattle.tt_choice.specs.Extremes.{start_most, end_least, dur_least, dur_most}
use Rattle.tt_choice.proofs.Bounds.{end_least_later}
use Rattle.sought_plans.specs.Known.{Known, le_of}
use Rattle.sought_plans.specs.Conclusions.{Conclusion}
use Rattle.sought_plans.specs.Premises.{IsFirstChance, AreChances, least_ready, wcet_of}
use Rattle.tt_infer.specs.Table.{rule}
use Rattle.sought_plans.proofs.GreatestWaits.{greatest_wait}

-- the least number that passes a test, where one does
pub record LeastOf (test : ℕ → Bool) : Type 0 where
  pub number : ℕ
  pub passes : test number ≡ true
  pub least : (s : ℕ) → test s ≡ true → number ≤ s

search : (test : ℕ → Bool) (bound : ℕ) → LeastOf test ⊎ ((s : ℕ) → s < bound → test s ≡ false)
search test zero = inr (λ s h. absurd (omega (arith, h)))
search test (suc bound) = elim (search test bound) [
  | inl found ↦ inl found
  | inr none ↦ elim (cases_Bool (test bound)) [
    | inl is ↦ inl (record {
      number = bound;
      passes = is;
      least = λ s passes. elim (cases_order s bound) [
        | inl same ↦ omega (arith, same)
        | inr apart ↦ elim apart [ inl below ↦ absurd (both_ways _ (none s below) passes) | inr above ↦ omega (arith, above) ]
      ];
    })
    | inr not_it ↦ inr (λ s h. elim (cases_order s bound) [
      | inl same ↦ rw same not_it
      | inr apart ↦ elim apart [ inl below ↦ none s below | inr above ↦ absurd (omega (arith, above, h)) ]
    ])
  ]
]

least_of : (test : ℕ → Bool) (some : ℕ) → test some ≡ true → LeastOf test
least_of test some passes = elim (search test (suc some)) [
  | inl found ↦ found
  | inr none ↦ absurd (both_ways _ (none some (omega arith)) passes)
]

-- a later round begins later, by a tick at least
round_le_start_most : (i : Instance) (c : Choice) (n r : ℕ) → IsInstance i → r ≤ start_most i c n r
round_le_start_most i c n r w =
    let term = term_in_total (dur_most i c) (length i.nodes) 0 (omega (arith, w.limits.nodes_least)) in
    let head = (w.ranges AtCluster).head_least in
    let long : 1 ≤ total (dur_most i c) (length i.nodes) = omega (arith, term, head) in
    omega (arith, mul-le-mul_left r long)

round_le_end_least : (i : Instance) (c : Choice) (n r : ℕ) → IsInstance i → r ≤ end_least i c n r
round_le_end_least i c n r w =
    let term = term_in_total (dur_least i c) (length i.nodes) 0 (omega (arith, w.limits.nodes_least)) in
    let head = (w.ranges AtCluster).head_least in
    let long : 1 ≤ total (dur_least i c) (length i.nodes) = omega (arith, term, head) in
    omega (arith, mul-le-mul_left r long)

pub first_chance : (i : Instance) (c : Choice) (f : Known) (m : ℕ) → IsInstance i → (r : ℕ) × IsFirstChance i c f m r
first_chance i c f m w =
    let time = least_ready i f m in
    let enough = round_le_start_most i c (source_of i m) (least_ready i f m) w in
    let found = least_of (λ r. nat_le (least_ready i f m) (start_most i c (source_of i m) r)) (least_ready i f m) (le-leb _ _ enough) in
    (found.number, record { late_enough = leb-true _ _ found.passes; least = λ s h. found.least s (le-leb _ _ h) })

arrival : Instance → Choice → ℕ → ℕ → ℕ → ℕ
arrival i c m q s = end_least i c (source_of i m) s + i.cluster.copy_in + wcet_of i q

pub chances : (i : Instance) (c : Choice) (f : Known) (m q : ℕ) → IsInstance i → (r : ℕ) × AreChances i c f m q r
unfolding arrival
chances i c f m q w =
    let enough = round_le_end_least i c (source_of i m) (suc (le_of f q)) w in
    let found = least_of (λ s. nat_le (suc (le_of f q)) (arrival i c m q s)) (suc (le_of f q)) (le-leb _ _ (omega (arith, enough))) in
    let late = leb-true (suc (le_of f q)) (arrival i c m q found.number) found.passes in (
      found.number,
      λ s. (
        (λ below. elim (cases_Bool (nat_le (arrival i c m q s) (le_of f q))) [
          | inl is ↦ leb-true _ _ is
          | inr over ↦ absurd (omega (arith, below, found.least s (le-leb _ _ (leb-false _ _ over))))
        ]),
        (λ early. elim (cases_order s found.number) [
          | inl same ↦ absurd (omega (arith, early, late, end_least_later i c (source_of i m) found.number s (omega (arith, same))))
          | inr apart ↦ elim apart [
            | inl below ↦ below
            | inr above ↦ absurd (omega (arith, early, late, end_least_later i c (source_of i m) found.number s (omega (arith, above))))
          ]
        ]),
      ),
    )

pub concludes_some : (i : Instance) (c : Choice) (goal : ℕ) (f : Known) (step : Step) → IsInstance i → (rule i c goal f step).premise → (k : Conclusion) × (rule i c goal f step).concludes k
concludes_some i c goal f (LoSend m) w premise = (let is = first_chance i c f m w in (_, (is.0, is.1, refl)))
concludes_some i c goal f (HiArrive m q) w premise = (let is = chances i c f m q w in (_, (is.0, is.1, refl)))
concludes_some i c goal f (UsSettled p) w premise = (let is = greatest_wait i c f p in (_, (is.0, is.1, refl)))
concludes_some i c goal f step w premise = (_, refl)
