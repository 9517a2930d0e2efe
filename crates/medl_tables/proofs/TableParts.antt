-- Tables of a plan have a row list for each node, and name nodes and messages that are there.
use Rattle.std.proofs.Common.{◌≡◌, ℕ, ◌<◌, [], length, slice_index, slice_index_or, map, All, arith}
use Rattle.std.specs.List.{range_with_len}
use Rattle.std.proofs.lemmas.List.FromFn.{get_or-map-range_with_len, length-map-range_with_len}
use Rattle.std.proofs.lemmas.List.Elements.{All-filter}
use Rattle.ttp_model.specs.declared.plan.Plan.{Plan}
use Rattle.ttp_model.specs.Instance.{Instance}
use Rattle.ttp_model.specs.Plans.{IsNodeOrder}
use Rattle.tt_layout.proofs.Ranges.{All-flat_map}
use Rattle.medl_tables.specs.declared.row.Entry.{Entry}
use Rattle.medl_tables.specs.Rows.{entries_on, entry_of, is_entry, round_rows, row_of, rows_of}
use Rattle.medl_tables.specs.Medl.{AreTables, IsRowOf, Medl, medl_of}

All-map-range : {X : Type 0} (P : X → Type 0) (f : ℕ → X) (n : ℕ) → ((k : ℕ) → k < n → P (f k)) → All P (map f (range_with_len 0 n))
All-map-range P f n each = λ k d inside.
    let place : k < n = omega (arith, inside, length-map-range_with_len f 0 n) in
    rw (get_or-map-range_with_len f 0 n k k d place (omega arith)) (each k place)

entries_there : (i : Instance) (plan : Plan) (node n r c : ℕ) → All (λ (e : Entry). e.message < length i.messages) (entries_on i plan node n r c)
entries_there i plan node n r c =
    let there = λ (e : Entry). e.message < length i.messages in
    let each = All-map-range there (entry_of i plan n r c) (length i.messages) (λ m inside. inside) in
    All-filter (λ (e : Entry). is_entry i plan node n r c e.message) there _ each

row_names_parts : (i : Instance) (plan : Plan) (node r k : ℕ) → IsNodeOrder (length i.nodes) plan.order → k < length plan.order → IsRowOf i (row_of i plan node r k)
row_names_parts i plan node r k o inside =
    let n = slice_index plan.order k in
    let there = λ (e : Entry). e.message < length i.messages in
    record {
      sender = (o.each k (omega (arith, inside, o.all))).node;
      messages = All-flat_map there (entries_on i plan node n r) _ (entries_there i plan node n r);
    }

pub rows_name_parts : (i : Instance) (plan : Plan) (node : ℕ) → IsNodeOrder (length i.nodes) plan.order → All (IsRowOf i) (rows_of i plan node)
rows_name_parts i plan node o =
    All-flat_map (IsRowOf i) (round_rows i plan node) _ (λ r. All-map-range (IsRowOf i) (row_of i plan node r) (length plan.order) (λ k inside. row_names_parts i plan node r k o inside))

-- the table of a node that is there
pub rows-medl_of : (i : Instance) (plan : Plan) (node : ℕ) → node < length i.nodes → slice_index_or (medl_of i plan).rows node [] ≡ rows_of i plan node
rows-medl_of i plan node inside = get_or-map-range_with_len (rows_of i plan) 0 (length i.nodes) node node [] inside (omega arith)

pub tables-length : (i : Instance) (t : Medl) → AreTables i t → length t.rows ≡ length i.nodes
tables-length i t w = rw w.of (length-map-range_with_len (rows_of i w.plan) 0 (length i.nodes))

pub tables_name_parts : (i : Instance) (t : Medl) (node : ℕ) → AreTables i t → node < length i.nodes → All (IsRowOf i) (slice_index_or t.rows node [])
tables_name_parts i t node w inside =
    rw (w.of, get_or-map-range_with_len (rows_of i w.plan) 0 (length i.nodes) node node [] inside (omega arith)) (rows_name_parts i w.plan node w.valid.order)
