-- Two messages on two channels are an instance, whether the second is to be on both or needn't.
use Rattle.std.proofs.Common.{◌≡◌, ◌≢◌, ℕ, zero, suc, ◌+◌, ◌-◌, ◌<◌, ◌≤◌, [], ◌∷◌, List, length, slice_index, slice_index_or, Bool, IsTrue, All, Contains, lit<, lit≤, refl, ap, sym, subst, arith, inl, inr}
use Rattle.std.proofs.lemmas.Bool.{cases_lt}
use Rattle.ttp_model.specs.declared.error.Place.{Place}
use Rattle.ttp_model.specs.declared.error.Place.TheVariants.{AtCluster, AtNode, AtProcess, AtLink, AtMessage}
use Rattle.ttp_model.specs.Instance.{Instance, node_at, process_at, message_at, node_of, source_of}
use Rattle.ttp_model.specs.Lists.{HasNoRepeats}
use Rattle.ttp_model.specs.Graph.{HasMessage, Leads, IsClosedWalk}
use Rattle.ttp_model.specs.Rules.{IsInstance, IsName, begins_name, continues_name, IsNamed, IsNewName, IsProcess, NamesWhatIsThere, IsInRange, IsProcessInRange, HasReceiver, HasCapacityList, IsCapacityList, SendsAway, CanEndInTime, ReceivesOnce, HasChannels}
use Rattle.ttp_model.specs.Worked.{two_messages}

-- a letter is a name
letter : (c : ℕ) → IsTrue (begins_name c) → IsTrue (continues_name c) → IsName (c ∷ [])
letter c begins continues = record { some = lit< tt; short = lit≤ tt; first = begins; others = others }
  where
    others : (k : ℕ) → k < 1 → IsTrue (continues_name (slice_index (c ∷ []) k))
    others zero lt = continues
    others (suc k) lt = absurd (omega (arith, lt))

-- other letters are other names
other_letter : (b c : ℕ) → b ≢ c → (b ∷ []) ≢ (c ∷ [])
other_letter b c other = λ e. other (ap (λ name. slice_index name 0) e)

-- a list of one capacity, which is small
one_capacity : (c : ℕ) → c ≤ 2 → IsCapacityList (c ∷ [])
one_capacity c small = record { some = lit≤ tt; few = lit≤ tt; rising = λ k lt. absurd (omega (arith, lt)); small = each }
  where
    each : (k d : ℕ) → k < 1 → slice_index_or (c ∷ []) k d ≤ 1000
    each zero d lt = omega (arith, small)
    each (suc k) d lt = absurd (omega (arith, lt))

-- one number stands once
once : (q : ℕ) → HasNoRepeats (q ∷ [])
once q j k below within = absurd (omega (arith, below, within))

module _ (both : Bool) where
  abbrev i : Instance
  i = two_messages both

  received : (m : ℕ) → m < 2 → HasReceiver i m
  received zero lt = lit< tt
  received (suc zero) lt = lit< tt
  received (suc (suc m)) lt = absurd (omega (arith, lt))

  node_named : (n : ℕ) → n < 2 → IsName (node_at i n).name
  node_named zero lt = letter 65 refl refl
  node_named (suc zero) lt = letter 66 refl refl
  node_named (suc (suc n)) lt = absurd (omega (arith, lt))

  process_named : (p : ℕ) → p < 3 → IsName (process_at i p).name
  process_named zero lt = letter 112 refl refl
  process_named (suc zero) lt = letter 113 refl refl
  process_named (suc (suc zero)) lt = letter 114 refl refl
  process_named (suc (suc (suc p))) lt = absurd (omega (arith, lt))

  message_named : (m : ℕ) → m < 2 → IsName (message_at i m).name
  message_named zero lt = letter 109 refl refl
  message_named (suc zero) lt = letter 108 refl refl
  message_named (suc (suc m)) lt = absurd (omega (arith, lt))

  named : (at : Place) → IsNamed i at
  named AtCluster = tt
  named (AtNode n) = node_named n
  named (AtProcess p) = process_named p
  named (AtLink l) = tt
  named (AtMessage m) = message_named m

  node_new : (n : ℕ) → n < 2 → (k : ℕ) → k < n → (node_at i k).name ≢ (node_at i n).name
  node_new zero lt k below = absurd (omega (arith, below))
  node_new (suc zero) lt zero below = other_letter 65 66 (λ e. omega (arith, e))
  node_new (suc zero) lt (suc k) below = absurd (omega (arith, below))
  node_new (suc (suc n)) lt k below = absurd (omega (arith, lt))

  process_new : (p : ℕ) → p < 3 → (k : ℕ) → k < p → (process_at i k).name ≢ (process_at i p).name
  process_new zero lt k below = absurd (omega (arith, below))
  process_new (suc zero) lt zero below = other_letter 112 113 (λ e. omega (arith, e))
  process_new (suc zero) lt (suc k) below = absurd (omega (arith, below))
  process_new (suc (suc zero)) lt zero below = other_letter 112 114 (λ e. omega (arith, e))
  process_new (suc (suc zero)) lt (suc zero) below = other_letter 113 114 (λ e. omega (arith, e))
  process_new (suc (suc zero)) lt (suc (suc k)) below = absurd (omega (arith, below))
  process_new (suc (suc (suc p))) lt k below = absurd (omega (arith, lt))

  message_new : (m : ℕ) → m < 2 → (k : ℕ) → k < m → (message_at i k).name ≢ (message_at i m).name
  message_new zero lt k below = absurd (omega (arith, below))
  message_new (suc zero) lt zero below = other_letter 109 108 (λ e. omega (arith, e))
  message_new (suc zero) lt (suc k) below = absurd (omega (arith, below))
  message_new (suc (suc m)) lt k below = absurd (omega (arith, lt))

  new_name : (at : Place) → IsNewName i at
  new_name AtCluster = tt
  new_name (AtNode n) = node_new n
  new_name (AtProcess p) = process_new p
  new_name (AtLink l) = tt
  new_name (AtMessage m) = message_new m

  on_node : (p : ℕ) → p < 3 → node_of i p < 2
  on_node zero lt = lit< tt
  on_node (suc zero) lt = lit< tt
  on_node (suc (suc zero)) lt = lit< tt
  on_node (suc (suc (suc p))) lt = absurd (omega (arith, lt))

  -- what holds of a number holds of each in a list of it alone
  alone : (P : ℕ → Type 0) (q : ℕ) → P q → All P (q ∷ [])
  alone P q holds zero d lt = holds
  alone P q holds (suc k) d lt = absurd (omega (arith, lt))

  between : (m : ℕ) → m < 2 → IsProcess i (message_at i m).sender × All (IsProcess i) (message_at i m).receivers
  between zero lt = (lit< tt, alone (IsProcess i) 1 (lit< tt))
  between (suc zero) lt = (lit< tt, alone (IsProcess i) 2 (lit< tt))
  between (suc (suc m)) lt = absurd (omega (arith, lt))

  there : (at : Place) → NamesWhatIsThere i at
  there AtCluster = tt
  there (AtNode n) = tt
  there (AtProcess p) = on_node p
  there (AtLink l) = λ lt. absurd (omega (arith, lt))
  there (AtMessage m) = between m

  process_in_range : (p : ℕ) → p < 3 → IsProcessInRange (process_at i p)
  process_in_range zero lt = record { wcet_least = lit≤ tt; wcet = lit≤ tt; release = lit≤ tt; deadline_least = lit≤ tt; deadline = lit≤ tt }
  process_in_range (suc zero) lt = record { wcet_least = lit≤ tt; wcet = lit≤ tt; release = lit≤ tt; deadline_least = lit≤ tt; deadline = lit≤ tt }
  process_in_range (suc (suc zero)) lt = record { wcet_least = lit≤ tt; wcet = lit≤ tt; release = lit≤ tt; deadline_least = lit≤ tt; deadline = lit≤ tt }
  process_in_range (suc (suc (suc p))) lt = absurd (omega (arith, lt))

  in_range : (at : Place) → IsInRange i at
  in_range AtCluster = record {
    precision = lit≤ tt;
    lead = lit≤ tt;
    trail = lit≤ tt;
    head_least = lit≤ tt;
    head = lit≤ tt;
    per_byte_least = lit≤ tt;
    per_byte = lit≤ tt;
    copy_out = lit≤ tt;
    copy_in = lit≤ tt;
    horizon_least = lit≤ tt;
    horizon = lit≤ tt;
    channels_least = lit≤ tt;
    channels = lit≤ tt;
  }
  in_range (AtNode n) = tt
  in_range (AtProcess p) = process_in_range p
  in_range (AtLink l) = tt
  in_range (AtMessage m) = message_in_range m
    where
      message_in_range : (m : ℕ) → m < 2 → (1 ≤ (message_at i m).bytes) × ((message_at i m).bytes ≤ 1000)
      message_in_range zero lt = (lit≤ tt, lit≤ tt)
      message_in_range (suc zero) lt = (lit≤ tt, lit≤ tt)
      message_in_range (suc (suc m)) lt = absurd (omega (arith, lt))

  own : (n : ℕ) → n < 2 → HasCapacityList i n
  own zero lt = one_capacity 2 (lit≤ tt)
  own (suc zero) lt = one_capacity 0 (lit≤ tt)
  own (suc (suc n)) lt = absurd (omega (arith, lt))

  away : (m : ℕ) → m < 2 → SendsAway i m
  away zero lt = alone (λ q. node_of i q ≢ source_of i 0) 1 (λ e. let other : 1 ≡ 0 = e in omega (arith, other))
  away (suc zero) lt = alone (λ q. node_of i q ≢ source_of i 1) 2 (λ e. let other : 1 ≡ 0 = e in omega (arith, other))
  away (suc (suc m)) lt = absurd (omega (arith, lt))

  in_time : (p : ℕ) → p < 3 → CanEndInTime i p
  in_time zero lt = lit≤ tt
  in_time (suc zero) lt = lit≤ tt
  in_time (suc (suc zero)) lt = lit≤ tt
  in_time (suc (suc (suc p))) lt = absurd (omega (arith, lt))

  received_once : (m : ℕ) → m < 2 → ReceivesOnce i m
  received_once zero lt = once 1
  received_once (suc zero) lt = once 2
  received_once (suc (suc m)) lt = absurd (omega (arith, lt))

  -- each message leads from process 0 to another one
  leads_on : (p q m : ℕ) → m < 2 → (message_at i m).sender ≡ p → Contains (message_at i m).receivers q → (p ≡ 0) × (1 ≤ q)
  leads_on p q zero lt sender (zero, inside, is) = (sym sender, omega (arith, is))
  leads_on p q zero lt sender (suc k, inside, is) = absurd (omega (arith, inside))
  leads_on p q (suc zero) lt sender (zero, inside, is) = (sym sender, omega (arith, is))
  leads_on p q (suc zero) lt sender (suc k, inside, is) = absurd (omega (arith, inside))
  leads_on p q (suc (suc m)) lt sender receiver = absurd (omega (arith, lt))

  leads : (p q : ℕ) → Leads i p q → (p ≡ 0) × (1 ≤ q)
  leads p q l = elim l [
    | inl link ↦ absurd (omega (arith, link.is_there))
    | inr h ↦ leads_on p q h.message h.is_there h.sender h.receiver
  ]

  no_walk : (ps : List ℕ) → ¬ IsClosedWalk i ps
  no_walk ps walk =
      let back = leads _ _ walk.closes in
      elim (cases_lt 1 (length ps)) [
        | inl more ↦ (let on = leads _ _ (walk.each 0 more) in omega (arith, on.0, back.1))
        | inr one ↦ (
            let last : length ps - 1 ≡ 0 = omega (arith, one) in
            let first = subst (λ k. slice_index ps k ≡ 0) last back.0 in
            omega (arith, first, back.1)
            )
      ]

  on_both : (m : ℕ) → m < 2 → HasChannels i m
  on_both m lt = λ one. (let alone : 2 ≡ 1 = one in absurd (omega (arith, alone)))

  pub is_instance : IsInstance i
  is_instance = record {
    limits = record { nodes_least = lit≤ tt; nodes = lit≤ tt; processes_least = lit≤ tt; processes = lit≤ tt; links = lit≤ tt; messages = lit≤ tt };
    receivers = received;
    names = named;
    new_names = new_name;
    indices = there;
    ranges = in_range;
    capacities = own;
    away = away;
    lead = lit≤ tt;
    trail = lit≤ tt;
    deadlines = in_time;
    links = λ l lt. absurd (omega (arith, lt));
    receivers_once = received_once;
    acyclic = no_walk;
    channels = on_both;
  }
