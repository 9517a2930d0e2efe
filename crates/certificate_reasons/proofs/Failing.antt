-- What isn't so, as numbers.
use Rattle.std.proofs.Common.{◌≡◌, ◌↔◌, ℕ, ◌-◌, ◌*◌, ◌<◌, ◌≤◌, Bool, false, IsTrue, arith, inl, inr, length}
use Rattle.std.proofs.lemmas.Bool.{both_ways, cases_lt}
use Rattle.ttp_model.specs.Graph.{Leads}
use Rattle.ttp_model.specs.Instance.{Instance, source_of}
use Rattle.ttp_model.specs.Totals.{total}
use Rattle.tt_choice.specs.Choice.{Choice}
use Rattle.tt_choice.specs.Extremes.{cap_least, cap_most, start_least}
use Rattle.sought_plans.specs.Dominance.{CouldBeEarlier, bytes_beside}
use Rattle.sought_plans.specs.Known.{Known, bef_of, lo_of}
use Rattle.sought_plans.specs.Premises.{AreOverfull, AreOverfullOn, IsAhead, IsOverloaded, bytes_copied, bytes_counted, load_within}
use Rattle.certificate_reasons.specs.Dominance.{most_ready}

pub at_least : (a b : ℕ) → ¬ (a < b) → b ≤ a
at_least a b fails = elim (cases_lt a b) [
  | inl less ↦ absurd (fails less)
  | inr at_most ↦ omega (arith, at_most)
]

pub above : (a b : ℕ) → ¬ (a ≤ b) → b < a
above a b fails = elim (cases_lt b a) [
  | inl less ↦ less
  | inr at_most ↦ absurd (fails (omega (arith, at_most)))
]

pub none : (a : ℕ) → ¬ (1 ≤ a) → a ≡ 0
none a fails = omega (arith, above 1 a fails)

module _ (i : Instance) (c : Choice) (f : Known) (n a b : ℕ) (span : a ≤ b) where
  pub load_fits : ¬ IsOverloaded i f n a b → total (load_within i f n a b) (length i.processes) ≤ b - a
  load_fits fails = at_least (b - a) (total (load_within i f n a b) (length i.processes)) (λ less. fails (record { span = span; load = less }))

  pub frames_fit : ¬ AreOverfull i c f n a b
      → total (bytes_copied i c f n a b) (length i.messages) ≤ i.cluster.channels * ((b - a) * cap_most i c n)
  frames_fit fails =
      at_least (i.cluster.channels * ((b - a) * cap_most i c n)) (total (bytes_copied i c f n a b) (length i.messages))
      (λ less. fails (record { span = span; bytes = less }))

  pub halves_fit : (k : ℕ) → ¬ AreOverfullOn i c f k n a b → total (bytes_counted i c f k n a b) (length i.messages) ≤ (b - a) * cap_most i c n
  halves_fit k fails =
      at_least ((b - a) * cap_most i c n) (total (bytes_counted i c f k n a b) (length i.messages)) (λ less. fails (record { span = span; bytes = less }))

-- where a message is ready in an earlier round there is no room for it
pub too_full : (i : Instance) (c : Choice) (f : Known) (m r : ℕ) → ¬ CouldBeEarlier i c f m r → r < lo_of f m
    → most_ready i f m ≤ start_least i c (source_of i m) r → cap_least i c (source_of i m) < total (bytes_beside i f m r) (length i.messages)
too_full i c f m r fails earlier ready =
    above (total (bytes_beside i f m r) (length i.messages)) (cap_least i c (source_of i m))
    (λ room. fails (record { earlier = earlier; ready = ready; room = room }))

-- where it isn't known that p goes before q, a link or a message has to lead there
pub ahead_else : (i : Instance) (f : Known) (p q : ℕ) (leads : Bool) → bef_of f p q ≡ false → (IsTrue leads ↔ Leads i p q) → IsTrue leads ↔ IsAhead i f p q
ahead_else i f p q leads unknown is = (
  λ so. inr (is.0 so),
  λ ahead. elim ahead [
    | inl known ↦ absurd (both_ways _ unknown known)
    | inr leads_there ↦ is.1 leads_there
  ],
)
