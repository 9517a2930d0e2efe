-- What holds of each entry of the tables of a plan.
use Rattle.std.proofs.Common.{◌≡◌, ℕ, ◌<◌, ◌==◌, ◌&&◌, ◌||◌, Bool, true, false, List, [], length, map, slice_index, zero, suc, All, Any, add-one, arith, refl, inl, inr}
use Rattle.std.specs.List.{flat_map, list_any, range_with_len}
use Rattle.std.proofs.lemmas.Bool.{false≢true}
use Rattle.std.proofs.lemmas.List.Elements.{All-append, All-filter, filter_passes}
use Rattle.std.proofs.lemmas.List.Folds.{Any-from_list_any}
use Rattle.std.proofs.lemmas.List.FromFn.{get_or-map-range_with_len, length-map-range_with_len}
use Rattle.ttp_model.specs.declared.plan.Plan.{Plan}
use Rattle.ttp_model.specs.Instance.{Instance, message_at, node_of, source_of}
use Rattle.ttp_model.specs.Plans.{is_in_frame_on}
use Rattle.tt_layout.proofs.Ranges.{All-flat_map, flat_map-range_with_len_more}
use Rattle.medl_tables.specs.declared.row.Entry.{Entry}
use Rattle.medl_tables.specs.declared.row.Row.{Row}
use Rattle.medl_tables.specs.Rows.{entries_on, entry_of, is_entry, is_shown_on, round_rows, row_of, rows_of}
use Rattle.medl_tables.specs.Medl.{Medl, medl_of}
use Rattle.evidence.specs.NodeTables.{Concerns, EachEntry, IsPlaced}

All-map-range : {X : Type 0} (P : X → Type 0) (f : ℕ → X) (n : ℕ) → ((k : ℕ) → k < n → P (f k)) → All P (map f (range_with_len 0 n))
All-map-range P f n each = λ k d inside.
    let place : k < n = omega (arith, inside, length-map-range_with_len f 0 n) in
    rw (get_or-map-range_with_len f 0 n k k d place (omega arith)) (each k place)

All-flat_map-range : {X : Type 0} (P : X → Type 0) (f : ℕ → List X) (n : ℕ) → ((k : ℕ) → k < n → All P (f k))
    → All P (flat_map f (range_with_len 0 n))
All-flat_map-range P f zero each = λ k d inside. absurd (omega arith)
All-flat_map-range P f (suc n) each =
    let more = rw add-one at (flat_map-range_with_len_more f n) in
    let before = All-flat_map-range P f n (λ k below. each k (omega (arith, below))) in
    rw (← more) (All-append P (flat_map f (range_with_len 0 n)) (f n) before (each n (omega arith)))

concerned : (i : Instance) (node m : ℕ) (sends receives : Bool) → (sends || receives) ≡ true → (sends ≡ true → source_of i m ≡ node)
    → (receives ≡ true → Any (λ q. node_of i q ≡ node) (message_at i m).receivers) → Concerns i node m
concerned i node m true receives shown sent received = inl (sent refl)
concerned i node m false receives shown sent received = inr (received shown)

second_true : (a b : Bool) → (a && b) ≡ true → b ≡ true
second_true true b e = e
second_true false b e = absurd (false≢true e)

module _ (i : Instance) (plan : Plan) where
  is_entry-concerns : (node n r c m : ℕ) → is_entry i plan node n r c m ≡ true → Concerns i node m
  is_entry-concerns node n r c m passes =
      let receivers = (message_at i m).receivers in
      concerned i node m (source_of i m == node) (list_any (λ q. node_of i q == node) receivers)
      (second_true (is_in_frame_on i plan n r c m) (is_shown_on i node m) passes)
      (λ same. grind arith)
      (λ some. let one = Any-from_list_any (λ q. node_of i q == node) receivers some in (one.0, one.1, one.2, one.3, grind (arith, one.4)))

  -- what holds of the entries of each row holds of those of the node's table in the tables of the plan
  each_entry : (t : Medl) (node : ℕ) (P : Row → Entry → Type 0) → t ≡ medl_of i plan → node < length i.nodes
      → ((r k : ℕ) → let row = row_of i plan node r k in All (P row) row.messages) → EachEntry t node P
  each_entry t node P is inside each =
      rw (is, get_or-map-range_with_len (rows_of i plan) 0 (length i.nodes) node node [] inside (omega arith))
      (All-flat_map (λ (row : Row). All (P row) row.messages) (round_rows i plan node) _
      (λ r. All-map-range (λ (row : Row). All (P row) row.messages) (row_of i plan node r) (length plan.order) (λ k _. each r k)))

  pub own_messages : (t : Medl) (node : ℕ) → t ≡ medl_of i plan → node < length i.nodes → EachEntry t node (λ row e. Concerns i node e.message)
  own_messages t node is inside = each_entry t node (λ row e. Concerns i node e.message) is inside (λ r k.
      let n = slice_index plan.order k in
      All-flat_map (λ (e : Entry). Concerns i node e.message) (entries_on i plan node n r) _ (λ c.
      let each = map (entry_of i plan n r c) (range_with_len 0 (length i.messages)) in
      let passes = filter_passes (λ (e : Entry). is_entry i plan node n r c e.message) each in
      λ j d here. is_entry-concerns node n r c _ (passes j d here)))

  pub own_places : (t : Medl) (node : ℕ) → t ≡ medl_of i plan → node < length i.nodes → EachEntry t node (IsPlaced i plan)
  own_places t node is inside = each_entry t node (IsPlaced i plan) is inside (λ r k.
      let n = slice_index plan.order k in
      let P = IsPlaced i plan (row_of i plan node r k) in
      All-flat_map-range P (entries_on i plan node n r) i.cluster.channels (λ c there.
      All-filter (λ (e : Entry). is_entry i plan node n r c e.message) P (map (entry_of i plan n r c) (range_with_len 0 (length i.messages)))
      (All-map-range P (entry_of i plan n r c) (length i.messages) (λ m _. record { channel = there; offset = refl }))))
