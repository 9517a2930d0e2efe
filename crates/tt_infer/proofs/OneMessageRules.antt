-- The worked example with one message keeps the rules of an instance.
use Rattle.std.proofs.Common.{◌≡◌, ◌≢◌, ℕ, zero, suc, ◌+◌, ◌-◌, ◌<◌, ◌≤◌, [], ◌∷◌, length, slice_index, slice_index_or, All, IsTrue, arith, inl, inr, refl, ap, lit<}
use Rattle.std.proofs.lemmas.Bool.{cases_order}
use Rattle.ttp_model.specs.declared.error.Place.{Place}
use Rattle.ttp_model.specs.declared.error.Place.TheVariants.{AtCluster, AtNode, AtProcess, AtLink, AtMessage}
use Rattle.ttp_model.specs.Instance.{node_at, process_at, message_at, node_of}
use Rattle.ttp_model.specs.Graph.{Leads, IsAcyclic}
use Rattle.ttp_model.specs.Rules.{IsInstance, IsName, IsNamed, IsNewName, IsInRange, IsProcess, IsProcessInRange, IsCapacityList, NamesWhatIsThere, begins_name, continues_name}
use Rattle.ttp_model.specs.Worked.{one_message}
use Rattle.ttp_model.proofs.OneMessage.{message_is}

-- It leads from p to q alone, so it has no cycle.
leads_is : (p q : ℕ) → Leads one_message p q → (p ≡ 0) × (q ≡ 1)
leads_is p q (inl link) = absurd (omega (arith, link.is_there))
leads_is p q (inr message) = message_is p q message

acyclic : IsAcyclic one_message
acyclic ps walk =
    let first = (leads_is (slice_index ps (length ps - 1)) (slice_index ps 0) walk.closes).1 in
    let last = (leads_is (slice_index ps (length ps - 1)) (slice_index ps 0) walk.closes).0 in
    elim (cases_order (length ps) 1) [
      | inl one ↦ (let same : length ps - 1 ≡ 0 = omega (arith, one) in absurd (omega (arith, first, last, ap (slice_index ps) same)))
      | inr apart ↦ elim apart [
        | inl none ↦ (let some = walk.some in absurd (omega (arith, none, some)))
        | inr more ↦ (let zeroth = (leads_is (slice_index ps 0) (slice_index ps (0 + 1)) (walk.each 0 (omega (arith, more)))).0 in absurd (omega (arith, first, zeroth)))
      ]
    ]

-- below two there are two numbers
two : (P : ℕ → Type 0) → P 0 → P 1 → (k : ℕ) → k < 2 → P k
two P zeroth first zero h = zeroth
two P zeroth first (suc zero) h = first
two P zeroth first (suc (suc k)) h = absurd (omega (arith, h))

-- and below one, one
one : (P : ℕ → Type 0) → P 0 → (k : ℕ) → k < 1 → P k
one P zeroth zero h = zeroth
one P zeroth (suc k) h = absurd (omega (arith, h))

none : (P : ℕ → Type 0) → (k : ℕ) → k < 0 → P k
none P k h = absurd (omega (arith, h))

all_of_one : (P : ℕ → Type 0) (x : ℕ) → P x → All P (x ∷ [])
all_of_one P x h k d inside = one (λ k. P (slice_index_or (x ∷ []) k d)) h k inside

is_name : (c : ℕ) → IsTrue (begins_name c) → IsTrue (continues_name c) → IsName (c ∷ [])
is_name c first other = record { some = lit< tt; short = lit< tt; first = first; others = one _ other }

other_name : (a b : ℕ) → a ≢ b → (a ∷ []) ≢ (b ∷ [])
other_name a b apart same = apart (ap (λ name. slice_index name 0) same)

names : (at : Place) → IsNamed one_message at
names AtCluster = tt
names (AtNode n) = two (λ n. IsName (node_at one_message n).name) (is_name 65 refl refl) (is_name 66 refl refl) n
names (AtProcess p) = two (λ p. IsName (process_at one_message p).name) (is_name 112 refl refl) (is_name 113 refl refl) p
names (AtLink l) = tt
names (AtMessage m) = one (λ m. IsName (message_at one_message m).name) (is_name 109 refl refl) m

pub one_message_is_instance : IsInstance one_message
one_message_is_instance = record {
  limits = record { nodes_least = lit< tt; nodes = lit< tt; processes_least = lit< tt; processes = lit< tt; links = omega arith; messages = lit< tt };
  receivers = one _ (lit< tt);
  names = names;
  new_names = new_names;
  indices = indices;
  ranges = ranges;
  capacities = two _ (capacity 2 (lit< tt)) (capacity 0 (omega arith));
  away = one _ (all_of_one (λ q. node_of one_message q ≢ 0) 1 (λ same. omega (arith, same)));
  lead = omega arith;
  trail = omega arith;
  deadlines = two _ (lit< tt) (lit< tt);
  links = none _;
  receivers_once = one _ (λ j k before inside. absurd (omega (arith, before, inside)));
  acyclic = acyclic;
  channels = one _ (λ _. refl);
}
  where
    new_names : (at : Place) → IsNewName one_message at
    new_names AtCluster = tt
    new_names (AtNode n) = two (λ n. (k : ℕ) → k < n → (node_at one_message k).name ≢ (node_at one_message n).name) (none _) (one _ (other_name 65 66 (λ same. omega (arith, same)))) n
    new_names (AtProcess p) = two (λ p. (k : ℕ) → k < p → (process_at one_message k).name ≢ (process_at one_message p).name) (none _) (one _ (other_name 112 113 (λ same. omega (arith, same)))) p
    new_names (AtLink l) = tt
    new_names (AtMessage m) = one (λ m. (k : ℕ) → k < m → (message_at one_message k).name ≢ (message_at one_message m).name) (none _) m

    indices : (at : Place) → NamesWhatIsThere one_message at
    indices AtCluster = tt
    indices (AtNode n) = tt
    indices (AtProcess p) = two (λ p. node_of one_message p < 2) (lit< tt) (lit< tt) p
    indices (AtLink l) = λ h. absurd (omega (arith, h))
    indices (AtMessage m) = one (λ m. IsProcess one_message (message_at one_message m).sender × All (IsProcess one_message) (message_at one_message m).receivers) (lit< tt, all_of_one (IsProcess one_message) 1 (lit< tt)) m

    process : (p : ℕ) → p < 2 → IsProcessInRange (process_at one_message p)
    process p h = two (λ p. IsProcessInRange (process_at one_message p)) (record { wcet_least = lit< tt; wcet = lit< tt; release = omega arith; deadline_least = lit< tt; deadline = lit< tt }) (record { wcet_least = lit< tt; wcet = lit< tt; release = omega arith; deadline_least = lit< tt; deadline = lit< tt }) p h

    ranges : (at : Place) → IsInRange one_message at
    ranges AtCluster = record { precision = omega arith; lead = omega arith; trail = omega arith; head_least = lit< tt; head = lit< tt; per_byte_least = lit< tt; per_byte = lit< tt; copy_out = omega arith; copy_in = omega arith; horizon_least = lit< tt; horizon = lit< tt; channels_least = lit< tt; channels = lit< tt }
    ranges (AtNode n) = tt
    ranges (AtProcess p) = process p
    ranges (AtLink l) = tt
    ranges (AtMessage m) = one (λ m. (1 ≤ (message_at one_message m).bytes) × ((message_at one_message m).bytes ≤ 1000)) (lit< tt, lit< tt) m

    capacity : (n : ℕ) → n ≤ 1000 → IsCapacityList (n ∷ [])
    capacity n h = record { some = lit< tt; few = lit< tt; rising = λ k below. absurd (omega (arith, below)); small = all_of_one (λ size. size ≤ 1000) n h }
