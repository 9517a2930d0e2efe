-- A round of a cluster takes some ticks where its cycle has an instance, whose counts are those of its definition.
use Rattle.std.proofs.Common.{◌≡◌, ℕ, zero, suc, ◌*◌, ◌<◌, ◌≤◌, length, arith, ap, subst}
use Rattle.std.proofs.Math.Nat.{mul-zero}
use Rattle.ttp_model.specs.Instance.{Instance}
use Rattle.ttp_model.specs.Rules.{IsInstance}
use Rattle.ttp_model.specs.declared.error.Place.TheVariants.{AtCluster}
use Rattle.rates_model.specs.Rates.{Rates}
use Rattle.rates_model.specs.Cycles.{round_of, rounds_in}
use Rattle.endless_schedules.specs.Unrolled.{unrolled, unrolled_links, unrolled_messages, unrolled_processes}

some_factor : (rounds round : ℕ) → 1 ≤ rounds * round → 0 < round
some_factor rounds zero least = absurd (omega (arith, mul-zero rounds, least))
some_factor rounds (suc round) least = omega arith

-- the horizon is whole rounds, and some ticks
pub some_round : (rho : Rates) (i : Instance) → i ≡ unrolled rho → IsInstance i → 0 < round_of rho
some_round rho i is keeps =
    let of_cycle : IsInstance (unrolled rho) = subst IsInstance is keeps in
    some_factor (rounds_in rho) (round_of rho) (of_cycle.ranges AtCluster).horizon_least

module _ (rho : Rates) (i : Instance) (is : i ≡ unrolled rho) where
  pub processes_counted : length i.processes ≡ length (unrolled_processes rho)
  processes_counted = ap (λ (it : Instance). length it.processes) is

  pub links_counted : length i.links ≡ length (unrolled_links rho)
  links_counted = ap (λ (it : Instance). length it.links) is

  pub messages_counted : length i.messages ≡ length (unrolled_messages rho)
  messages_counted = ap (λ (it : Instance). length it.messages) is
