-- Rounds behind the cycle carry nothing, so their lines are the same in each table.
use Rattle.std.proofs.Common.{◌≡◌, ◌∙◌, ℕ, ◌+◌, ◌<◌, ◌≤◌, List, [], ◌∷◌, ◌++◌, Contains, length, map, slice_index, codes, append_assoc, arith, refl, sym, ap, ap₂}
use Rattle.std.specs.List.{flat_map, range_with_len}
use Rattle.std.proofs.lemmas.List.{append-nil, flat_map_more, get_or_default}
use Rattle.std.proofs.lemmas.List.Concat.{flat_map-append}
use Rattle.std.proofs.lemmas.List.FromFn.{get_or-map-range_with_len, map-range_with_len_more}
use Rattle.ttp_model.specs.declared.plan.Plan.{Plan}
use Rattle.ttp_model.specs.Instance.{Instance, node_at}
use Rattle.ttp_model.specs.Rules.{IsInstance}
use Rattle.ttp_model.specs.Plans.{IsValid, round_of}
use Rattle.tt_layout.specs.Cycle.{cycle_rounds}
use Rattle.tt_layout.proofs.Ranges.{flat_map-range_with_len_more}
use Rattle.medl_tables.specs.declared.row.Entry.{Entry}
use Rattle.medl_tables.specs.declared.row.Row.{Row}
use Rattle.medl_tables.specs.Rows.{entries_of, round_rows, row_of, rows_of}
use Rattle.medl_tables.specs.Medl.{medl_of}
use Rattle.medl_tables.specs.Text.{row_line, table_text, text_at}
use Rattle.medl_tables.proofs.FrameEntries.{entries_of-none}
use Rattle.medl_tables.proofs.TableParts.{rows-medl_of}
use Rattle.line_text.specs.Words.{spaced}
use Rattle.plan_cycles.proofs.Periods.{round_inside}
use Rattle.plan_cycles.specs.Rounds.{AreLinesBehind, empty_row, rows_in, tables_in}

-- what is the same of each
map-same : {X Y : Type 0} (f g : X → Y) (xs : List X) → ((x : X) → f x ≡ g x) → map f xs ≡ map g xs
map-same f g [] same = refl
map-same f g (x ∷ xs) same = ap₂ (λ y ys. y ∷ ys) (same x) (map-same f g xs same)

-- a row by what it carries
abbrev row_with : Plan → ℕ → ℕ → List Entry → Row
row_with plan r k entries = record { round = r; position = k; sender = slice_index plan.order k; capacity = slice_index plan.caps (slice_index plan.order k); messages = entries }

module _ (i : Instance) (plan : Plan) (w : IsInstance i) (v : IsValid i plan) where
  pub no_entries : (node n r : ℕ) → cycle_rounds i plan ≤ r → entries_of i plan node n r ≡ []
  no_entries node n r behind = entries_of-none i plan node n r v.lengths none
    where
      none : ¬ Contains plan.rounds r
      none has =
          let inside : has.0 < length i.messages = omega (arith, has.1, v.lengths.rounds) in
          let is : round_of plan has.0 ≡ r = sym (get_or_default plan.rounds has.0 r 0 has.1) ∙ has.2 in
          omega (arith, is, round_inside i plan w v has.0 inside, behind)

  round_is_empty : (node r : ℕ) → cycle_rounds i plan ≤ r → round_rows i plan node r ≡ map (empty_row plan r) (range_with_len 0 (length i.nodes))
  round_is_empty node r behind = rw (← v.lengths.order) (map-same (row_of i plan node r) (empty_row plan r) (range_with_len 0 (length plan.order)) row_is_empty)
    where
      row_is_empty : (k : ℕ) → row_of i plan node r k ≡ empty_row plan r k
      row_is_empty k = ap (row_with plan r k) (no_entries node (slice_index plan.order k) r behind)

  -- behind the cycle there is nothing yet
  pub no_lines : AreLinesBehind (cycle_rounds i plan) i plan []
  no_lines node = append-nil (flat_map (row_line i) (rows_of i plan node))

  -- and then the lines of one round more
  pub lines_more : (r : ℕ) (lines : List ℕ) → cycle_rounds i plan ≤ r → AreLinesBehind r i plan lines
      → AreLinesBehind (r + 1) i plan (lines ++ flat_map (row_line i) (map (empty_row plan r) (range_with_len 0 (length i.nodes))))
  lines_more r lines behind are node =
      let line = row_line i in
      let before = flat_map line (rows_of i plan node) in
      let next = round_rows i plan node r in
      let joined : flat_map line (rows_in r i plan node) ++ flat_map line next ≡ flat_map line (rows_in (r + 1) i plan node) =
      sym (flat_map-append line (rows_in r i plan node) next) ∙ ap (flat_map line) (flat_map-range_with_len_more (round_rows i plan node) r) in
      rw (← round_is_empty node r behind) (sym (append_assoc before lines (flat_map line next)) ∙ (ap (λ xs. xs ++ flat_map line next) (are node) ∙ joined))

behind_both : (text head front behind whole : List ℕ) → front ++ behind ≡ whole → (text ++ (head ++ front)) ++ behind ≡ text ++ (head ++ whole)
behind_both text head front behind whole is = append_assoc text (head ++ front) behind ∙ ap (λ x. text ++ x) (append_assoc head front behind ∙ ap (λ x. head ++ x) is)

-- the lines of a node's table are those of its cycle and those behind it
pub node_lines : (i : Instance) (plan : Plan) (node rounds : ℕ) (text lines behind after last : List ℕ) → node < length i.nodes → AreLinesBehind rounds i plan behind
    → lines ≡ text_at i (medl_of i plan) node → after ≡ text ++ lines → last ≡ after ++ behind → last ≡ text ++ text_at i (tables_in rounds i plan) node
unfolding text_at table_text
node_lines i plan node rounds text lines behind after last inside are is front back =
    let longer = get_or-map-range_with_len (rows_in rounds i plan) 0 (length i.nodes) node node [] inside (omega arith) in
    rw (back, front, is, rows-medl_of i plan node inside, longer)
    (behind_both text (codes "node" ++ spaced (node_at i node).name ++ codes "\n") (flat_map (row_line i) (rows_of i plan node)) behind
    (flat_map (row_line i) (rows_in rounds i plan node)) (are node))

-- one line more
pub line_grows : {X : Type 0} (before now next : List ℕ) (line : X → List ℕ) (row : ℕ → X) (k : ℕ) → now ≡ before ++ flat_map line (map row (range_with_len 0 k)) → next ≡ now ++ line (row k)
    → next ≡ before ++ flat_map line (map row (range_with_len 0 (k + 1)))
line_grows before now next line row k so_far is =
    rw (map-range_with_len_more row 0 k k (omega arith), is, so_far) (flat_map_more line before (map row (range_with_len 0 k)) (row k))
