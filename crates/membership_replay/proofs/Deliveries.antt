-- What is told of the messages that a row lists: of each once, and of no other.
use Rattle.std.proofs.Common.{◌≡◌, ◌∙◌, ℕ, zero, suc, ◌<◌, ◌==◌, true, List, [], ◌∷◌, All, Contains, length, get_or, slice_index_or, arith, refl, inl, inr, zero-add, eq-eqb}
use Rattle.std.specs.List.{flat_map, range_with_len}
use Rattle.std.proofs.lemmas.Bool.{cases_lt}
use Rattle.std.proofs.lemmas.List.{get_or_past}
use Rattle.std.proofs.lemmas.List.Elements.{Contains-append_left, Contains-append_right}
use Rattle.std.proofs.lemmas.List.Folds.{list_any_at}
use Rattle.std.proofs.lemmas.List.FromFn.{get_or-range_with_len, length-range_with_len}
use Rattle.ttp_model.specs.Limits.{most_messages}
use Rattle.ttp_model.specs.Instance.{Instance}
use Rattle.medl_tables.specs.declared.row.Entry.{Entry}
use Rattle.medl_tables.specs.Medl.{AreTables, Medl}
use Rattle.medl_tables.proofs.FrameEntries.{flat_map-none}
use Rattle.medl_tables.proofs.TableParts.{tables_name_parts}
use Rattle.membership_replay.specs.declared.trace.Event.TheVariants.{Deliver}
use Rattle.membership_replay.specs.Trace.{deliveries, delivery, is_listed, no_row, row_at}

Contains-flat_map : {X Y : Type 0} (f : X → List Y) (xs : List X) (k : ℕ) (d : X) (y : Y) → k < length xs
    → Contains (f (get_or xs k d)) y → Contains (flat_map f xs) y
Contains-flat_map f [] k d y inside there = absurd (omega arith)
Contains-flat_map f (x ∷ xs) zero d y inside there = Contains-append_left (f x) (flat_map f xs) y there
Contains-flat_map f (x ∷ xs) (suc k) d y inside there =
    Contains-append_right (f x) (flat_map f xs) y (Contains-flat_map f xs k d y (omega (arith, inside)) there)

pub Contains-flat_map-range : {Y : Type 0} (f : ℕ → List Y) (n i : ℕ) (y : Y) → i < n → Contains (f i) y
    → Contains (flat_map f (range_with_len 0 n)) y
Contains-flat_map-range f n i y inside there =
    let place : get_or (range_with_len 0 n) i 0 ≡ i = get_or-range_with_len 0 n i 0 inside ∙ zero-add i in
    Contains-flat_map f (range_with_len 0 n) i 0 y (omega (arith, inside, length-range_with_len 0 n)) (rw place there)

-- nothing of none
pub deliveries-none : (i : ℕ) (messages : List Entry) → length messages ≡ 0 → deliveries i messages ≡ []
unfolding deliveries delivery
deliveries-none i [] none = flat_map-none (delivery i []) (range_with_len 0 most_messages) (λ m. refl)
deliveries-none i (e ∷ messages) none = absurd (omega (arith, none))

listed : (messages : List Entry) (k m : ℕ) (d : Entry) → k < length messages → (get_or messages k d).message ≡ m → is_listed messages m ≡ true
listed messages k m d inside is = list_any_at (λ (e : Entry). e.message == m) messages k d inside (eq-eqb _ m is)

-- each of the messages is told as delivered
pub Contains-deliveries : (i : ℕ) (messages : List Entry) (k m : ℕ) (d : Entry) → k < length messages → (get_or messages k d).message ≡ m
    → m < most_messages → Contains (deliveries i messages) (Deliver m i)
unfolding deliveries delivery
Contains-deliveries i messages k m d inside is known =
    let told : Contains (delivery i messages m) (Deliver m i) = rw (listed messages k m d inside is) (0, omega arith, refl) in
    Contains-flat_map-range (delivery i messages) most_messages m (Deliver m i) known told

-- the messages that the tables of an instance list are there
pub rows_name_messages : (i : Instance) (t : Medl) (node slot : ℕ) → AreTables i t → node < length i.nodes
    → All (λ (e : Entry). e.message < length i.messages) (row_at t node slot).messages
rows_name_messages i t node slot w inside = elim (cases_lt slot (length (slice_index_or t.rows node []))) [
  | inl there ↦ (tables_name_parts i t node w inside slot no_row there).messages
  | inr past ↦ rw (get_or_past (slice_index_or t.rows node []) slot no_row past) (λ k d below. absurd (omega arith))
]
