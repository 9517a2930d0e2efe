-- With another bound on a chain's age a cluster keeps all its rules.
use Rattle.std.proofs.Common.{◌≡◌, ◌≢◌, ◌∙◌, ℕ, ◌*◌, ◌<◌, ◌≤◌, Option, IfSome, length, arith, inl, inr, refl, ap, subst}
use Rattle.std.proofs.lemmas.Bool.{cases_eq}
use Rattle.std.proofs.lemmas.List.{get_or-set_other, get_or-set_same, length-set}
use Rattle.rates_model.specs.declared.parts.Chain.{Chain}
use Rattle.rates_model.specs.declared.error.RatesPart.TheVariants as part
use Rattle.rates_model.specs.declared.error.RatesError.{RatesError}
use Rattle.rates_model.specs.declared.error.RatesError.TheVariants.{Length, NoReceiver, Through, NameForm, NameRepeated, NoSuchIndex, OutOfRange, NoRoom, NothingRead, ShortRound, LongCycle, LongRound}
use Rattle.rates_model.specs.declared.error.RatesPlace.TheVariants.{AtCluster, AtNode, AtProcess, AtLink, AtMessage, AtChain}
use Rattle.rates_model.specs.Rates.{Rates, chain_at, no_chain}
use Rattle.rates_model.specs.Cycles.{cycle, round_of}
use Rattle.rates_model.specs.Refusals.{IsRatesRefusal}
use Rattle.rates_model.specs.Rules.{AreTicks, IsRates, KeepsRatesRule, Indices, Names, NewNames, Ranges}
use Rattle.endless_schedules.specs.Bounds.{with_age}

module _ (rho : Rates) (x age : ℕ) where
  abbrev aged : Rates
  aged = with_age rho x age

  pub as_many : length aged.chains ≡ length rho.chains
  as_many = length-set rho.chains x (record (chain_at rho x) { age = age })

  -- its cycle is as long
  pub cycle_kept : cycle aged ≡ cycle rho
  unfolding cycle
  cycle_kept = refl

  module _ (there : x < length rho.chains) where
    -- what doesn't speak of an age is as it was
    pub chain_kept : {X : Type 0} (read : Chain → X) → read (record (chain_at rho x) { age = age }) ≡ read (chain_at rho x)
        → (c : ℕ) → read (chain_at aged c) ≡ read (chain_at rho c)
    chain_kept read same c = elim (cases_eq c x) [
      | inl is ↦ rw is (ap read (get_or-set_same rho.chains x (record (chain_at rho x) { age = age }) no_chain there) ∙ same)
      | inr other ↦ ap read (get_or-set_other rho.chains x c (record (chain_at rho x) { age = age }) no_chain other)
    ]

    pub age_is : (chain_at aged x).age ≡ age
    age_is = ap (λ (chain : Chain). chain.age) (get_or-set_same rho.chains x (record (chain_at rho x) { age = age }) no_chain there)

    pub other_kept : (c : ℕ) → c ≢ x → chain_at aged c ≡ chain_at rho c
    other_kept c other = get_or-set_other rho.chains x c (record (chain_at rho x) { age = age }) no_chain other

    name_kept : (c : ℕ) → (chain_at aged c).name ≡ (chain_at rho c).name
    name_kept = chain_kept (λ chain. chain.name) refl

    pub through_kept : (c : ℕ) → (chain_at aged c).through ≡ (chain_at rho c).through
    through_kept = chain_kept (λ chain. chain.through) refl

    module _ (w : IsRates rho) (ticks : AreTicks age) where
      inside_old : (c : ℕ) → c < length aged.chains → c < length rho.chains
      inside_old c inside = omega (arith, inside, as_many)

      named : KeepsRatesRule aged Names
      named AtCluster = tt
      named (AtNode n) = w.names (AtNode n)
      named (AtProcess p) = w.names (AtProcess p)
      named (AtLink l) = tt
      named (AtMessage m) = w.names (AtMessage m)
      named (AtChain c) = λ inside. rw (name_kept c) (w.names (AtChain c) (inside_old c inside))

      new_names : KeepsRatesRule aged NewNames
      new_names AtCluster = tt
      new_names (AtNode n) = w.new_names (AtNode n)
      new_names (AtProcess p) = w.new_names (AtProcess p)
      new_names (AtLink l) = tt
      new_names (AtMessage m) = w.new_names (AtMessage m)
      new_names (AtChain c) = λ inside k before. rw (name_kept k, name_kept c) (w.new_names (AtChain c) (inside_old c inside) k before)

      indexed : KeepsRatesRule aged Indices
      indexed AtCluster = tt
      indexed (AtNode n) = tt
      indexed (AtProcess p) = w.indices (AtProcess p)
      indexed (AtLink l) = w.indices (AtLink l)
      indexed (AtMessage m) = w.indices (AtMessage m)
      indexed (AtChain c) = λ inside. rw (through_kept c) (w.indices (AtChain c) (inside_old c inside))

      age_inside : (c : ℕ) → c < length aged.chains → AreTicks (chain_at aged c).age
      age_inside c inside = elim (cases_eq c x) [
        | inl is ↦ rw (is, age_is) ticks
        | inr other ↦ rw (other_kept c other) (w.ranges (AtChain c) (inside_old c inside))
      ]

      in_range : KeepsRatesRule aged Ranges
      in_range AtCluster = w.ranges AtCluster
      in_range (AtNode n) = tt
      in_range (AtProcess p) = w.ranges (AtProcess p)
      in_range (AtLink l) = w.ranges (AtLink l)
      in_range (AtMessage m) = w.ranges (AtMessage m)
      in_range (AtChain c) = age_inside c

      -- rule by rule
      pub rules_kept : IsRates aged
      rules_kept = record {
        limits = record {
          nodes_least = w.limits.nodes_least;
          nodes = w.limits.nodes;
          processes_least = w.limits.processes_least;
          processes = w.limits.processes;
          links = w.limits.links;
          messages = w.limits.messages;
          chains = omega (arith, w.limits.chains, as_many);
        };
        receivers = w.receivers;
        throughs = λ c inside.
            let few = w.throughs c (inside_old c inside) in
            record { least = rw (through_kept c) few.least; most = rw (through_kept c) few.most };
        names = named;
        new_names = new_names;
        indices = indexed;
        ranges = in_range;
        rooms = λ p inside. let room = w.rooms p inside in record { ends = room.ends; within = room.within };
        chains = λ c inside. rw (through_kept c) (w.chains c (inside_old c inside));
        slots = w.slots;
        cycles = omega (arith, w.cycles, cycle_kept);
        rounds = omega (arith, w.rounds, cycle_kept);
      }

-- which are not refused then
pub not_refused : (rho : Rates) → IsRates rho → (error : RatesError) → ¬ IsRatesRefusal rho error
not_refused rho w (Length part.Nodes) is = is.1 (w.limits.nodes_least, w.limits.nodes)
not_refused rho w (Length part.Processes) is = is.1.1 (w.limits.processes_least, w.limits.processes)
not_refused rho w (Length part.Links) is = is.1.2 (omega arith, w.limits.links)
not_refused rho w (Length part.Messages) is = is.1.3 (omega arith, w.limits.messages)
not_refused rho w (Length part.Chains) is = is.1.4 (omega arith, w.limits.chains)
not_refused rho w (NoReceiver m) is = is.1.fails (w.receivers m is.1.within)
not_refused rho w (Through c) is = is.1.fails (w.throughs c is.1.within)
not_refused rho w (NameForm at) is = is.1.fails (w.names at)
not_refused rho w (NameRepeated at) is = is.1.fails (w.new_names at)
not_refused rho w (NoSuchIndex at) is = is.1.fails (w.indices at)
not_refused rho w (OutOfRange at) is = is.1.fails (w.ranges at)
not_refused rho w (NoRoom p) is = is.1.fails (w.rooms p is.1.within)
not_refused rho w (NothingRead c place) is = is.1.unread (w.chains c is.1.within place is.1.behind is.1.there)
not_refused rho w (ShortRound slots round) is =
    let within = subst (λ (asked : Option ℕ). IfSome asked (λ r. round_of rho ≤ rho.cluster.finer * r)) is.1.asked w.slots in
    omega (arith, is.1.slots_are, is.1.longer, within)
not_refused rho w LongCycle is = is.1 w.cycles
not_refused rho w (LongRound round cycle_ticks) is = omega (arith, is.1.round_is, is.1.cycle_is, is.1.longer, w.rounds)

-- nor are tables that are such a cluster
pub aged_not_refused : (rho tables : Rates) (x age : ℕ) (error : RatesError) → IsRates rho → x < length rho.chains → AreTicks age → tables ≡ with_age rho x age
    → ¬ IsRatesRefusal tables error
aged_not_refused rho tables x age error w there ticks is refused =
    not_refused (with_age rho x age) (rules_kept rho x age there w ticks) error (rw is at refused)
