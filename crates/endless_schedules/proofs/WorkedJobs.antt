-- The instance of one cycle of the worked cluster is the one that is written out, and keeps each rule of instances.
use Rattle.std.proofs.Common.{◌≡◌, ◌≢◌, ◌∙◌, ◌++◌, ℕ, zero, suc, ◌-◌, ◌<◌, ◌≤◌, List, [], ◌∷◌, codes, length, slice_index, All, Contains, IsTrue, arith, inl, inr, false, refl, ap, ap₂, sym, subst, lit<, lit≤}
use Rattle.std.specs.Fmt.{decimal}
use Rattle.std.proofs.lemmas.Bool.{cases_lt}
use Rattle.std.proofs.lemmas.Fmt.{decimal_digit}
use Rattle.ttp_model.specs.declared.error.Place.{Place}
use Rattle.ttp_model.specs.declared.error.Place.TheVariants.{AtCluster, AtNode, AtProcess, AtLink, AtMessage}
use Rattle.ttp_model.specs.Instance.{Instance, instance_with, message_at, node_at, node_of, process_at}
use Rattle.ttp_model.specs.Worked.{node_with, plain_cluster}
use Rattle.ttp_model.specs.Graph.{IsClosedWalk, Leads}
use Rattle.ttp_model.specs.Rules.{IsCapacityList, IsInRange, IsInstance, IsName, IsNamed, IsNewName, IsProcess, IsProcessInRange, NamesWhatIsThere}
use Rattle.rates_model.specs.Cycles.{cycle, least_multiple, least_times}
use Rattle.endless_schedules.specs.Names.{numbered, stored_name}
use Rattle.endless_schedules.specs.Stores.{first_store, job_index, storing_nodes, with_new}
use Rattle.endless_schedules.specs.Times.{job_deadline}
use Rattle.endless_schedules.specs.Unrolled.{job, job_message, jobs, jobs_reading, link_to, links_of, messages_of, readers, sent_of, store, stores, stores_reading, unrolled, unrolled_node}
use Rattle.endless_schedules.specs.Worked.{late_jobs, late_pair, tick_on}
use Rattle.endless_schedules.proofs.WorkedRules.{all_of_one, letter, none, one, other_letter, two}

-- that instance, where the jobs of q have these numbers
abbrev numbered_jobs : List ℕ → List ℕ → Instance
numbered_jobs zeroth first = instance_with (record plain_cluster { horizon = 8 })
    (node_with (codes "A") 2 ∷ node_with (codes "B") 0 ∷ [])
    (tick_on (codes "p") 0 0 8 ∷ tick_on (codes "q" ++ (codes "_" ++ zeroth)) 1 0 4 ∷ tick_on (codes "q" ++ (codes "_" ++ first)) 1 4 6
    ∷ tick_on (codes "m_at_B") 1 0 8 ∷ [])
    []
    (record { name = codes "m"; sender = 0; receivers = 3 ∷ []; bytes = 2; both = false } ∷ [])

is_numbered : unrolled late_pair ≡ numbered_jobs (decimal 0) (decimal 1)
unfolding cycle least_multiple least_times numbered stored_name first_store job_index storing_nodes with_new job_deadline job job_message jobs jobs_reading link_to links_of messages_of readers sent_of store stores stores_reading unrolled_node
is_numbered = refl

pub late_pair_is_unrolled : unrolled late_pair ≡ late_jobs
late_pair_is_unrolled = is_numbered ∙ ap₂ numbered_jobs (decimal_digit 0 (lit< tt)) (decimal_digit 1 (lit< tt))

pub three : (P : ℕ → Type 0) → P 0 → P 1 → P 2 → (k : ℕ) → k < 3 → P k
three P zeroth first second zero h = zeroth
three P zeroth first second (suc k) h = two (λ j. P (suc j)) first second k (omega (arith, h))

pub four : (P : ℕ → Type 0) → P 0 → P 1 → P 2 → P 3 → (k : ℕ) → k < 4 → P k
four P zeroth first second third zero h = zeroth
four P zeroth first second third (suc k) h = three (λ j. P (suc j)) first second third k (omega (arith, h))

six : (P : ℕ → Type 0) → P 0 → P 1 → P 2 → P 3 → P 4 → P 5 → (k : ℕ) → k < 6 → P k
six P zeroth first second third fourth fifth zero h = zeroth
six P zeroth first second third fourth fifth (suc zero) h = first
six P zeroth first second third fourth fifth (suc (suc k)) h = four (λ j. P (suc (suc j))) second third fourth fifth k (omega (arith, h))

abbrev i : Instance
i = late_jobs

name_of_q0 : IsName (codes "q_0")
name_of_q0 = record { some = lit< tt; short = lit≤ tt; first = refl; others = three _ refl refl refl }

name_of_q1 : IsName (codes "q_1")
name_of_q1 = record { some = lit< tt; short = lit≤ tt; first = refl; others = three _ refl refl refl }

name_of_store : IsName (codes "m_at_B")
name_of_store = record { some = lit< tt; short = lit≤ tt; first = refl; others = six _ refl refl refl refl refl refl }

named : (at : Place) → IsNamed i at
named AtCluster = tt
named (AtNode n) = two (λ n. IsName (node_at i n).name) (letter 65 refl refl) (letter 66 refl refl) n
named (AtProcess p) = four (λ p. IsName (process_at i p).name) (letter 112 refl refl) name_of_q0 name_of_q1 name_of_store p
named (AtLink l) = tt
named (AtMessage m) = one (λ m. IsName (message_at i m).name) (letter 109 refl refl) m

-- names that differ in the letter at a place
differ : (k : ℕ) (a b : List ℕ) → slice_index a k ≢ slice_index b k → a ≢ b
differ k a b apart same = apart (ap (λ name. slice_index name k) same)

new_process : (p : ℕ) → p < 4 → (k : ℕ) → k < p → (process_at i k).name ≢ (process_at i p).name
new_process = four (λ p. (k : ℕ) → k < p → (process_at i k).name ≢ (process_at i p).name)
    (none _)
    (one _ (differ 0 (codes "p") (codes "q_0") (λ same. omega (arith, same))))
    (two _ (differ 0 (codes "p") (codes "q_1") (λ same. omega (arith, same))) (differ 2 (codes "q_0") (codes "q_1") (λ same. omega (arith, same))))
    (three _ (differ 0 (codes "p") (codes "m_at_B") (λ same. omega (arith, same))) (differ 0 (codes "q_0") (codes "m_at_B") (λ same. omega (arith, same)))
    (differ 0 (codes "q_1") (codes "m_at_B") (λ same. omega (arith, same))))

new_named : (at : Place) → IsNewName i at
new_named AtCluster = tt
new_named (AtNode n) =
    two (λ n. (k : ℕ) → k < n → (node_at i k).name ≢ (node_at i n).name) (none _) (one _ (other_letter 65 66 (λ same. omega (arith, same)))) n
new_named (AtProcess p) = new_process p
new_named (AtLink l) = tt
new_named (AtMessage m) = one (λ m. (k : ℕ) → k < m → (message_at i k).name ≢ (message_at i m).name) (none _) m

there : (at : Place) → NamesWhatIsThere i at
there AtCluster = tt
there (AtNode n) = tt
there (AtProcess p) = four (λ p. node_of i p < 2) (lit< tt) (lit< tt) (lit< tt) (lit< tt) p
there (AtLink l) = λ h. absurd (omega (arith, h))
there (AtMessage m) =
    one (λ m. IsProcess i (message_at i m).sender × All (IsProcess i) (message_at i m).receivers) (lit< tt, all_of_one (IsProcess i) 3 (lit< tt)) m

process_in_range : (p : ℕ) → p < 4 → IsProcessInRange (process_at i p)
process_in_range = four (λ p. IsProcessInRange (process_at i p))
    (record { wcet_least = lit≤ tt; wcet = lit≤ tt; release = lit≤ tt; deadline_least = lit≤ tt; deadline = lit≤ tt })
    (record { wcet_least = lit≤ tt; wcet = lit≤ tt; release = lit≤ tt; deadline_least = lit≤ tt; deadline = lit≤ tt })
    (record { wcet_least = lit≤ tt; wcet = lit≤ tt; release = lit≤ tt; deadline_least = lit≤ tt; deadline = lit≤ tt })
    (record { wcet_least = lit≤ tt; wcet = lit≤ tt; release = lit≤ tt; deadline_least = lit≤ tt; deadline = lit≤ tt })

-- each number is in its range
in_range : (at : Place) → IsInRange i at
in_range AtCluster = record {
  precision = lit≤ tt;
  lead = lit≤ tt;
  trail = lit≤ tt;
  head_least = lit≤ tt;
  head = lit≤ tt;
  per_byte_least = lit≤ tt;
  per_byte = lit≤ tt;
  copy_out = lit≤ tt;
  copy_in = lit≤ tt;
  horizon_least = lit≤ tt;
  horizon = lit≤ tt;
  channels_least = lit≤ tt;
  channels = lit≤ tt;
}
in_range (AtNode n) = tt
in_range (AtProcess p) = process_in_range p
in_range (AtLink l) = tt
in_range (AtMessage m) = one (λ m. (1 ≤ (message_at i m).bytes) × ((message_at i m).bytes ≤ 1000)) (lit≤ tt, lit≤ tt) m

one_capacity : (n : ℕ) → n ≤ 1000 → IsCapacityList (n ∷ [])
one_capacity n small = record {
  some = lit≤ tt;
  few = lit≤ tt;
  rising = λ k below. absurd (omega (arith, below));
  small = all_of_one (λ size. size ≤ 1000) n small;
}

-- its message leads from p to the store, and nothing else leads anywhere
leads_on : (p q m : ℕ) → m < 1 → (message_at i m).sender ≡ p → Contains (message_at i m).receivers q → (p ≡ 0) × (1 ≤ q)
leads_on p q zero inside sender (zero, within, is) = (sym sender, omega (arith, is))
leads_on p q zero inside sender (suc k, within, is) = absurd (omega (arith, within))
leads_on p q (suc m) inside sender receiver = absurd (omega (arith, inside))

leads : (p q : ℕ) → Leads i p q → (p ≡ 0) × (1 ≤ q)
leads p q l = elim l [
  | inl link ↦ absurd (omega (arith, link.is_there))
  | inr h ↦ leads_on p q h.message h.is_there h.sender h.receiver
]

no_walk : (ps : List ℕ) → ¬ IsClosedWalk i ps
no_walk ps walk =
    let back = leads _ _ walk.closes in
    elim (cases_lt 1 (length ps)) [
      | inl more ↦ (let on = leads _ _ (walk.each 0 more) in omega (arith, on.0, back.1))
      | inr few ↦ (
          let last : length ps - 1 ≡ 0 = omega (arith, few) in
          let first = subst (λ k. slice_index ps k ≡ 0) last back.0 in
          omega (arith, first, back.1)
          )
    ]

-- so all rules are kept
pub late_jobs_is_instance : IsInstance late_jobs
late_jobs_is_instance = record {
  limits = record { nodes_least = lit≤ tt; nodes = lit≤ tt; processes_least = lit≤ tt; processes = lit≤ tt; links = lit≤ tt; messages = lit≤ tt };
  receivers = one _ (lit< tt);
  names = named;
  new_names = new_named;
  indices = there;
  ranges = in_range;
  capacities = two _ (one_capacity 2 (lit≤ tt)) (one_capacity 0 (lit≤ tt));
  away = one _ (all_of_one (λ q. node_of i q ≢ 0) 3 (λ same. omega (arith, same)));
  lead = lit≤ tt;
  trail = lit≤ tt;
  deadlines = four _ (lit≤ tt) (lit≤ tt) (lit≤ tt) (lit≤ tt);
  links = none _;
  receivers_once = one _ (λ j k before inside. absurd (omega (arith, before, inside)));
  acyclic = no_walk;
  channels = one _ (λ _. refl);
}
