-- The line of a row is a part of the text of the tables that have it.
use Rattle.std.proofs.Common.{◌≡◌, ℕ, ◌<◌, List, [], ◌++◌, Contains, length, slice_index_or, append_assoc}
use Rattle.std.specs.List.{flat_map}
use Rattle.std.specs.Prelude.{codes, decimal}
use Rattle.std.proofs.lemmas.List.{append-nil}
use Rattle.ttp_model.specs.Instance.{Instance, node_at}
use Rattle.line_text.specs.Words.{spaced}
use Rattle.medl_tables.specs.declared.row.Row.{Row}
use Rattle.medl_tables.specs.Medl.{Medl}
use Rattle.medl_tables.specs.Text.{entry_text, head_text, row_line, table_text, tables_text, text_at}
use Rattle.evidence.specs.NodeTables.{row_front}
use Rattle.evidence.specs.Parts.{IsPartOf}
use Rattle.evidence.proofs.Parts.{element, numbered, within}

-- what stands in front of a part, in one piece
in_front : (a b c front part behind : List ℕ) → a ++ b ++ c ++ (front ++ part ++ behind) ≡ (a ++ b ++ c ++ front) ++ part ++ behind
in_front a b c front part behind = simp append_assoc

row_begins : (i : Instance) (row : Row) → IsPartOf (row_front i row) (row_line i row)
unfolding row_line
row_begins i row = ([], flat_map (entry_text i) row.messages ++ codes "\n", simp (append_assoc, append-nil))

table_has : (i : Instance) (node : ℕ) (rows : List Row) (row : Row) → Contains rows row → IsPartOf (row_line i row) (table_text i node rows)
unfolding table_text
table_has i node rows row there =
    let line = element (row_line i) rows row there in (
      codes "node" ++ spaced (node_at i node).name ++ codes "\n" ++ line.0,
      line.1,
      rw line.2 (in_front (codes "node") (spaced (node_at i node).name) (codes "\n") line.0 (row_line i row) line.1),
    )

pub text_has : (i : Instance) (t : Medl) (node : ℕ) (row : Row) → node < length t.rows → Contains (slice_index_or t.rows node []) row
    → IsPartOf (row_front i row) (tables_text i t)
unfolding text_at
text_has i t node row inside there =
    let n = length t.rows in
    let table = numbered (text_at i t) n node inside in
    let head = head_text i in
    let rounds = spaced (decimal t.rounds) in
    let same = in_front head rounds (codes "\n") table.0 (text_at i t node) table.1 in
    let whole : IsPartOf (text_at i t node) (tables_text i t) = (head ++ rounds ++ codes "\n" ++ table.0, table.1, rw table.2 same) in
    let rows = slice_index_or t.rows node [] in
    within (row_front i row) (row_line i row) (tables_text i t) (row_begins i row)
    (within (row_line i row) (table_text i node rows) (tables_text i t) (table_has i node rows row there) whole)
