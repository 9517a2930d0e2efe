-- What is said of each entry of a node's table, and of the text of tables.
use Rattle.std.specs.Prelude.{◌≡◌, ℕ, ◌<◌, List, [], ◌++◌, All, Any, ◌⊎◌, codes, decimal, slice_index_or}
use Rattle.ttp_model.specs.declared.plan.Plan.{Plan}
use Rattle.ttp_model.specs.Instance.{Instance, message_at, node_at, node_of, source_of}
use Rattle.ttp_model.specs.Plans.{bytes_on}
use Rattle.ttp_model.specs.Totals.{total}
use Rattle.line_text.specs.Words.{spaced}
use Rattle.medl_tables.specs.declared.row.Entry.{Entry}
use Rattle.medl_tables.specs.declared.row.Row.{Row}
use Rattle.medl_tables.specs.Medl.{Medl}

-- so it is of each entry that the node's table has, with the row that it stands in
abbrev pub EachEntry : Medl → ℕ → (Row → Entry → Type 0) → Type 0
EachEntry t node P = All (λ (row : Row). All (P row) row.messages) (slice_index_or t.rows node [])

-- the node sends the message, or some receiver of it is on the node
abbrev pub Concerns : Instance → ℕ → ℕ → Type 0
Concerns i node m = (source_of i m ≡ node) ⊎ Any (λ q. node_of i q ≡ node) (message_at i m).receivers

-- an entry is on a channel of the cluster, and its offset counts the bytes of the messages before it in its frame there
pub record IsPlaced (i : Instance) (plan : Plan) (row : Row) (e : Entry) : Type 0 where
  pub channel : e.channel < i.cluster.channels
  pub offset : e.offset ≡ total (bytes_on i plan row.sender row.round e.channel) e.message

-- how the line of a row begins: its round, its position, its sender and the capacity
abbrev pub row_front : Instance → Row → List ℕ
row_front i row =
    codes "row" ++ spaced (decimal row.round) ++ spaced (decimal row.position) ++ spaced (node_at i row.sender).name ++ spaced (decimal row.capacity)
