-- The worked example keeps each rule of an instance, but where its trail is 0 that on the trail.
use Rattle.std.proofs.Common.{◌≡◌, ◌≢◌, ℕ, zero, suc, ◌-◌, ◌<◌, ◌≤◌, List, [], ◌∷◌, length, slice_index, slice_index_or, All, Contains, IsTrue, arith, inl, inr, refl, ap, sym, subst, lit<, lit≤}
use Rattle.std.proofs.lemmas.Bool.{cases_lt}
use Rattle.ttp_model.specs.declared.error.Place.{Place}
use Rattle.ttp_model.specs.declared.error.Place.TheVariants.{AtCluster, AtNode, AtProcess, AtLink, AtMessage}
use Rattle.ttp_model.specs.Instance.{Instance, message_at, node_at, node_of, process_at}
use Rattle.ttp_model.specs.Graph.{IsClosedWalk, Leads}
use Rattle.ttp_model.specs.Rules.{IsCapacityList, IsInRange, IsInstance, IsName, IsNamed, IsNewName, IsProcess, IsProcessInRange, KeepsRule, NamesWhatIsThere, Rule, Lengths, Receivers, Names, NewNames, Indices, Ranges, CapacityLists, ReceiversAway, Lead, Trail, Deadlines, LinkEnds, ReceiversOnce, Cycles, Channels, begins_name, continues_name}
use Rattle.plan_cycles.specs.Worked.{BreaksAlone, pair_with}

-- below two there are two numbers, and below one there is one
two : (P : ℕ → Type 0) → P 0 → P 1 → (k : ℕ) → k < 2 → P k
two P zeroth first zero h = zeroth
two P zeroth first (suc zero) h = first
two P zeroth first (suc (suc k)) h = absurd (omega (arith, h))

one : (P : ℕ → Type 0) → P 0 → (k : ℕ) → k < 1 → P k
one P zeroth zero h = zeroth
one P zeroth (suc k) h = absurd (omega (arith, h))

none : (P : ℕ → Type 0) → (k : ℕ) → k < 0 → P k
none P k h = absurd (omega (arith, h))

all_of_one : (P : ℕ → Type 0) (x : ℕ) → P x → All P (x ∷ [])
all_of_one P x h k d inside = one (λ k. P (slice_index_or (x ∷ []) k d)) h k inside

letter : (c : ℕ) → IsTrue (begins_name c) → IsTrue (continues_name c) → IsName (c ∷ [])
letter c begins continues = record { some = lit< tt; short = lit< tt; first = begins; others = one _ continues }

other_letter : (a b : ℕ) → a ≢ b → (a ∷ []) ≢ (b ∷ [])
other_letter a b apart same = apart (ap (λ name. slice_index name 0) same)

one_capacity : (n : ℕ) → n ≤ 1000 → IsCapacityList (n ∷ [])
one_capacity n small = record { some = lit< tt; few = lit< tt; rising = λ k below. absurd (omega (arith, below)); small = all_of_one (λ size. size ≤ 1000) n small }

module _ (trail : ℕ) (short : trail ≤ 1) where
  abbrev i : Instance
  i = pair_with trail

  named : (at : Place) → IsNamed i at
  named AtCluster = tt
  named (AtNode n) = two (λ n. IsName (node_at i n).name) (letter 65 refl refl) (letter 66 refl refl) n
  named (AtProcess p) = two (λ p. IsName (process_at i p).name) (letter 112 refl refl) (letter 113 refl refl) p
  named (AtLink l) = tt
  named (AtMessage m) = one (λ m. IsName (message_at i m).name) (letter 109 refl refl) m

  new_named : (at : Place) → IsNewName i at
  new_named AtCluster = tt
  new_named (AtNode n) = two (λ n. (k : ℕ) → k < n → (node_at i k).name ≢ (node_at i n).name) (none _) (one _ (other_letter 65 66 (λ same. omega (arith, same)))) n
  new_named (AtProcess p) = two (λ p. (k : ℕ) → k < p → (process_at i k).name ≢ (process_at i p).name) (none _) (one _ (other_letter 112 113 (λ same. omega (arith, same)))) p
  new_named (AtLink l) = tt
  new_named (AtMessage m) = one (λ m. (k : ℕ) → k < m → (message_at i k).name ≢ (message_at i m).name) (none _) m

  there : (at : Place) → NamesWhatIsThere i at
  there AtCluster = tt
  there (AtNode n) = tt
  there (AtProcess p) = two (λ p. node_of i p < 2) (lit< tt) (lit< tt) p
  there (AtLink l) = λ h. absurd (omega (arith, h))
  there (AtMessage m) = one (λ m. IsProcess i (message_at i m).sender × All (IsProcess i) (message_at i m).receivers) (lit< tt, all_of_one (IsProcess i) 1 (lit< tt)) m

  process_in_range : (p : ℕ) → p < 2 → IsProcessInRange (process_at i p)
  process_in_range p h =
      let each : IsProcessInRange (process_at i 0) = record { wcet_least = lit< tt; wcet = lit< tt; release = omega arith; deadline_least = lit< tt; deadline = lit< tt } in
      let other : IsProcessInRange (process_at i 1) = record { wcet_least = lit< tt; wcet = lit< tt; release = omega arith; deadline_least = lit< tt; deadline = lit< tt } in
      two (λ p. IsProcessInRange (process_at i p)) each other p h

  in_range : (at : Place) → IsInRange i at
  in_range AtCluster = record {
    precision = lit< tt;
    lead = lit< tt;
    trail = omega (arith, short);
    head_least = lit< tt;
    head = lit< tt;
    per_byte_least = lit< tt;
    per_byte = lit< tt;
    copy_out = omega arith;
    copy_in = omega arith;
    horizon_least = lit< tt;
    horizon = lit< tt;
    channels_least = lit< tt;
    channels = lit< tt;
  }
  in_range (AtNode n) = tt
  in_range (AtProcess p) = process_in_range p
  in_range (AtLink l) = tt
  in_range (AtMessage m) = one (λ m. (1 ≤ (message_at i m).bytes) × ((message_at i m).bytes ≤ 1000)) (lit< tt, lit< tt) m

  -- its message leads from p to q, and nothing else leads anywhere
  leads_on : (p q m : ℕ) → m < 1 → (message_at i m).sender ≡ p → Contains (message_at i m).receivers q → (p ≡ 0) × (1 ≤ q)
  leads_on p q zero inside sender (zero, within, is) = (sym sender, omega (arith, is))
  leads_on p q zero inside sender (suc k, within, is) = absurd (omega (arith, within))
  leads_on p q (suc m) inside sender receiver = absurd (omega (arith, inside))

  leads : (p q : ℕ) → Leads i p q → (p ≡ 0) × (1 ≤ q)
  leads p q l = elim l [
    | inl link ↦ absurd (omega (arith, link.is_there))
    | inr h ↦ leads_on p q h.message h.is_there h.sender h.receiver
  ]

  no_walk : (ps : List ℕ) → ¬ IsClosedWalk i ps
  no_walk ps walk =
      let back = leads _ _ walk.closes in
      elim (cases_lt 1 (length ps)) [
        | inl more ↦ (let on = leads _ _ (walk.each 0 more) in omega (arith, on.0, back.1))
        | inr few ↦ (
            let last : length ps - 1 ≡ 0 = omega (arith, few) in
            let first = subst (λ k. slice_index ps k ≡ 0) last back.0 in
            omega (arith, first, back.1)
            )
      ]

  keeps : (rule : Rule) → (rule ≡ Trail → 1 ≤ trail) → KeepsRule i rule
  keeps Lengths long = record { nodes_least = lit< tt; nodes = lit< tt; processes_least = lit< tt; processes = lit< tt; links = omega arith; messages = lit< tt }
  keeps Receivers long = one _ (lit< tt)
  keeps Names long = named
  keeps NewNames long = new_named
  keeps Indices long = there
  keeps Ranges long = in_range
  keeps CapacityLists long = two _ (one_capacity 2 (lit< tt)) (one_capacity 0 (omega arith))
  keeps ReceiversAway long = one _ (all_of_one (λ q. node_of i q ≢ 0) 1 (λ same. omega (arith, same)))
  keeps Lead long = lit< tt
  keeps Trail long = long refl
  keeps Deadlines long = two _ (lit< tt) (lit< tt)
  keeps LinkEnds long = none _
  keeps ReceiversOnce long = one _ (λ j k before inside. absurd (omega (arith, before, inside)))
  keeps Cycles long = no_walk
  keeps Channels long = one _ (λ _. refl)

-- with a trail of one tick it is well-formed
pub pair_is_instance : IsInstance (pair_with 1)
pair_is_instance =
    let kept = λ (rule : Rule). keeps 1 (lit≤ tt) rule (λ _. lit≤ tt) in
    record {
      limits = kept Lengths;
      receivers = kept Receivers;
      names = kept Names;
      new_names = kept NewNames;
      indices = kept Indices;
      ranges = kept Ranges;
      capacities = kept CapacityLists;
      away = kept ReceiversAway;
      lead = kept Lead;
      trail = kept Trail;
      deadlines = kept Deadlines;
      links = kept LinkEnds;
      receivers_once = kept ReceiversOnce;
      acyclic = kept Cycles;
      channels = kept Channels;
    }

-- and with none the trail is below the precision, and that is all that is wrong
pub pair_breaks_alone : BreaksAlone (pair_with 0) Trail
pair_breaks_alone = record {
  broken = λ long. absurd (omega (arith, long));
  others = λ other differ. keeps 0 (omega arith) other (λ is. absurd (differ is));
}
