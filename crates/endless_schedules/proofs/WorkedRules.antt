-- The worked cluster keeps each rule of clusters of several rates.
use Rattle.std.proofs.Common.{◌≡◌, ◌≢◌, ℕ, zero, suc, ◌<◌, ◌≤◌, [], ◌∷◌, length, slice_index, slice_index_or, All, IsTrue, arith, ap, refl, lit<, lit≤}
use Rattle.ttp_model.specs.Rules.{IsName, begins_name, continues_name}
use Rattle.ttp_model.specs.Limits.{most_ticks}
use Rattle.rates_model.specs.declared.error.RatesPlace.{RatesPlace}
use Rattle.rates_model.specs.declared.error.RatesPlace.TheVariants.{AtCluster, AtNode, AtProcess, AtLink, AtMessage, AtChain}
use Rattle.rates_model.specs.Rates.{Rates, chain_at, message_at, node_at, node_of, process_at}
use Rattle.rates_model.specs.Cycles.{cycle, least_multiple, least_times}
use Rattle.rates_model.specs.Rules.{AreTicks, HasIndices, HasName, HasNewName, HasRanges, HasRoom, IsChain, IsOfFewProcesses, IsRates, IsRatesProcess, ReadsAt}
use Rattle.endless_schedules.specs.Worked.{late_pair}

-- below a small number there are few numbers
pub none : (P : ℕ → Type 0) → (k : ℕ) → k < 0 → P k
none P k h = absurd (omega (arith, h))

pub one : (P : ℕ → Type 0) → P 0 → (k : ℕ) → k < 1 → P k
one P zeroth zero h = zeroth
one P zeroth (suc k) h = absurd (omega (arith, h))

pub two : (P : ℕ → Type 0) → P 0 → P 1 → (k : ℕ) → k < 2 → P k
two P zeroth first zero h = zeroth
two P zeroth first (suc k) h = one (λ j. P (suc j)) first k (omega (arith, h))

pub letter : (c : ℕ) → IsTrue (begins_name c) → IsTrue (continues_name c) → IsName (c ∷ [])
letter c begins continues = record { some = lit< tt; short = lit≤ tt; first = begins; others = one _ continues }

pub other_letter : (a b : ℕ) → a ≢ b → (a ∷ []) ≢ (b ∷ [])
other_letter a b apart same = apart (ap (λ name. slice_index name 0) same)

all_of_two : (P : ℕ → Type 0) (x y : ℕ) → P x → P y → All P (x ∷ y ∷ [])
all_of_two P x y h g k d inside = two (λ k. P (slice_index_or (x ∷ y ∷ []) k d)) h g k inside

pub all_of_one : (P : ℕ → Type 0) (x : ℕ) → P x → All P (x ∷ [])
all_of_one P x h k d inside = one (λ k. P (slice_index_or (x ∷ []) k d)) h k inside

abbrev rho : Rates
rho = late_pair

pub cycle_is_8 : cycle rho ≡ 8
unfolding cycle least_multiple least_times
cycle_is_8 = refl

named : (at : RatesPlace) → HasName rho at
named AtCluster = tt
named (AtNode n) = two (λ n. IsName (node_at rho n).name) (letter 65 refl refl) (letter 66 refl refl) n
named (AtProcess p) = two (λ p. IsName (process_at rho p).name) (letter 112 refl refl) (letter 113 refl refl) p
named (AtLink l) = tt
named (AtMessage m) = one (λ m. IsName (message_at rho m).name) (letter 109 refl refl) m
named (AtChain c) = one (λ c. IsName (chain_at rho c).name) (letter 99 refl refl) c

new_named : (at : RatesPlace) → HasNewName rho at
new_named AtCluster = tt
new_named (AtNode n) =
    two (λ n. (k : ℕ) → k < n → (node_at rho k).name ≢ (node_at rho n).name) (none _) (one _ (other_letter 65 66 (λ same. omega (arith, same)))) n
new_named (AtProcess p) =
    two (λ p. (k : ℕ) → k < p → (process_at rho k).name ≢ (process_at rho p).name) (none _)
    (one _ (other_letter 112 113 (λ same. omega (arith, same)))) p
new_named (AtLink l) = tt
new_named (AtMessage m) = one (λ m. (k : ℕ) → k < m → (message_at rho k).name ≢ (message_at rho m).name) (none _) m
new_named (AtChain c) = one (λ c. (k : ℕ) → k < c → (chain_at rho k).name ≢ (chain_at rho c).name) (none _) c

there : (at : RatesPlace) → HasIndices rho at
there AtCluster = tt
there (AtNode n) = tt
there (AtProcess p) = two (λ p. node_of rho p < 2) (lit< tt) (lit< tt) p
there (AtLink l) = λ h. absurd (omega (arith, h))
there (AtMessage m) =
    one (λ m. IsRatesProcess rho (message_at rho m).sender × All (IsRatesProcess rho) (message_at rho m).receivers)
    (lit< tt, all_of_one (IsRatesProcess rho) 1 (lit< tt)) m
there (AtChain c) = one (λ c. All (IsRatesProcess rho) (chain_at rho c).through) (all_of_two (IsRatesProcess rho) 0 1 (lit< tt) (lit< tt)) c

in_range : (at : RatesPlace) → HasRanges rho at
in_range AtCluster = ((lit≤ tt, lit≤ tt), tt)
in_range (AtNode n) = tt
in_range (AtProcess p) = two (λ p. AreTicks (process_at rho p).period) (lit≤ tt, lit≤ tt) (lit≤ tt, lit≤ tt) p
in_range (AtLink l) = λ h. absurd (omega (arith, h))
in_range (AtMessage m) = one (λ m. (message_at rho m).delay ≤ 1) (lit≤ tt) m
in_range (AtChain c) = one (λ c. AreTicks (chain_at rho c).age) (lit≤ tt, lit≤ tt) c

reads : (k : ℕ) → 1 ≤ k → k < 2 → ReadsAt rho 0 k
reads zero least below = absurd (omega (arith, least))
reads (suc zero) least below = refl
reads (suc (suc k)) least below = absurd (omega (arith, below))

room : (p : ℕ) → p < 2 → HasRoom rho p
room = two (HasRoom rho) (record { ends = lit≤ tt; within = lit≤ tt }) (record { ends = lit≤ tt; within = lit≤ tt })

-- so all rules are kept
pub late_pair_is_rates : IsRates late_pair
late_pair_is_rates = record {
  limits = record {
    nodes_least = lit≤ tt;
    nodes = lit≤ tt;
    processes_least = lit≤ tt;
    processes = lit≤ tt;
    links = lit≤ tt;
    messages = lit≤ tt;
    chains = lit≤ tt;
  };
  receivers = one _ (lit< tt);
  throughs = one (IsOfFewProcesses rho) (record { least = lit≤ tt; most = lit≤ tt });
  names = named;
  new_names = new_named;
  indices = there;
  ranges = in_range;
  rooms = room;
  chains = one (IsChain rho) reads;
  slots = tt;
  cycles = rw cycle_is_8 (lit≤ tt);
  rounds = rw cycle_is_8 (lit≤ tt);
}
