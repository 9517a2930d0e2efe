-- What is of another node puts nothing into a node's spans and frames, and what a process waits for is on its lists.
use Rattle.std.proofs.Common.{◌≡◌, ℕ, ◌*◌, ◌<◌, ◌≤◌, ◌==◌, if◌then◌else◌, Bool, true, false, List, length, slice_index, arith, inl, inr, refl, sym, ap, ◌∙◌}
use Rattle.std.proofs.lemmas.Bool.{false≢true}
use Rattle.std.proofs.lemmas.Bool.Decides.{eqb_tells}
use Rattle.std.proofs.lemmas.List.{get_or_default}
use Rattle.std.proofs.lemmas.List.Elements.{All-get_or}
use Rattle.ttp_model.specs.Instance.{Instance, message_at, node_of, source_of}
use Rattle.ttp_model.specs.Network.{is_process_of, is_message_of, is_received_by, received_by}
use Rattle.ttp_model.proofs.Indices.{picked, in_indices, indices_inside, Contains-from_any, any_from_Contains}
use Rattle.tt_choice.specs.Choice.{Choice}
use Rattle.sought_plans.specs.Known.{Known, top_of}
use Rattle.sought_plans.specs.Premises.{load_within, bytes_within, copies, bytes_copied, counts_on, bytes_counted}
use Rattle.sought_plans.specs.Dominance.{HasRounds, IsSentTo, MayGoBefore, bytes_beside}

pub load_elsewhere : (i : Instance) (f : Known) (n a b p : ℕ) → p < length i.processes → is_process_of i n p ≡ false → load_within i f n a b p ≡ 0
load_elsewhere i f n a b p inside off = rw off refl

pub bytes_elsewhere : (i : Instance) (f : Known) (n a b m : ℕ) → m < length i.messages → is_message_of i n m ≡ false → bytes_within i f n a b m ≡ 0
bytes_elsewhere i f n a b m inside off = rw off refl

-- nothing, however often or wherever it counts
none_copied : (count x : ℕ) → x ≡ 0 → count * x ≡ 0
none_copied count x none = rw none (omega arith)

none_counted : (counts : Bool) (x : ℕ) → x ≡ 0 → (if counts then x else 0) ≡ 0
none_counted true x none = none
none_counted false x none = refl

pub bytes_copied_elsewhere : (i : Instance) (c : Choice) (f : Known) (n a b m : ℕ) → m < length i.messages → is_message_of i n m ≡ false → bytes_copied i c f n a b m ≡ 0
bytes_copied_elsewhere i c f n a b m inside off = none_copied (copies c m) (bytes_within i f n a b m) (bytes_elsewhere i f n a b m inside off)

pub bytes_counted_elsewhere : (i : Instance) (c : Choice) (f : Known) (k n a b m : ℕ) → m < length i.messages → is_message_of i n m ≡ false → bytes_counted i c f k n a b m ≡ 0
bytes_counted_elsewhere i c f k n a b m inside off = none_counted (counts_on c k m) (bytes_within i f n a b m) (bytes_elsewhere i f n a b m inside off)

-- the message itself is of its own node
other_message : (i : Instance) (m k : ℕ) → is_message_of i (source_of i m) k ≡ false → (k == m) ≡ false
other_message i m k off = elim (eqb_tells k m) [
  | inl is ↦ elim (eqb_tells (source_of i k) (source_of i m)) [
    | inl same ↦ absurd (false≢true (rw off at same.0))
    | inr other ↦ absurd (other.1 (ap (source_of i) is.1))
  ]
  | inr other ↦ other.0
]

pub bytes_beside_elsewhere : (i : Instance) (f : Known) (m r k : ℕ) → k < length i.messages → is_message_of i (source_of i m) k ≡ false → bytes_beside i f m r k ≡ 0
bytes_beside_elsewhere i f m r k inside off = let itself = other_message i m k off in rw (itself, off) refl

-- what may run before a process is on its node
pub on_its_node : (i : Instance) (f : Known) (p x : ℕ) → x < length i.processes → MayGoBefore i f p x → is_process_of i (node_of i p) x ≡ true
on_its_node i f p x inside may = elim (eqb_tells (node_of i x) (node_of i p)) [ inl is ↦ is.0 | inr other ↦ absurd (other.1 may.one_node) ]

-- a message to a process is among those that it receives
pub among_received : (i : Instance) (p m : ℕ) → m < length i.messages → IsSentTo i p m → is_received_by i p m ≡ true
among_received i p m inside sent = any_from_Contains (message_at i m).receivers p sent.1

-- each of the list is sent to it
pub listed_is_sent : (i : Instance) (p k : ℕ) (list : List ℕ) → list ≡ received_by i p → k < length list → IsSentTo i p (slice_index list k)
listed_is_sent i p k list is inside =
    let there : k < length (received_by i p) = omega (arith, inside, ap length is) in
    let at : slice_index (received_by i p) k ≡ slice_index list k = ap (λ (xs : List ℕ). slice_index xs k) (sym is) in
    let picks = picked (is_received_by i p) (length i.messages) k there in
    let known : slice_index (received_by i p) k < length i.messages = All-get_or (λ (m : ℕ). m < length i.messages) (received_by i p) k 0 there (indices_inside (is_received_by i p) (length i.messages)) in
    let both : IsSentTo i p (slice_index (received_by i p) k) = (known, Contains-from_any (message_at i (slice_index (received_by i p) k)).receivers p picks) in
    rw at at both

-- a round is left for each message to p, where one is left for each of the list
pub rounds_listed : (i : Instance) (f : Known) (p k : ℕ) (list : List ℕ) → list ≡ received_by i p → length list ≤ k → ((j : ℕ) → j < k → 1 ≤ top_of f (slice_index list j)) → HasRounds i f p
rounds_listed i f p k list is done left = λ m sent.
    let found = in_indices (is_received_by i p) (length i.messages) m sent.0 (among_received i p m sent.0 sent) in
    let there : found.0 < length list = omega (arith, found.1, ap length is) in
    let at : slice_index list found.0 ≡ m = ap (λ (xs : List ℕ). slice_index xs found.0) is ∙ (get_or_default (received_by i p) found.0 0 m found.1 ∙ found.2) in
    rw at at (left found.0 (omega (arith, there, done)))
