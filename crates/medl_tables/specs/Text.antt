-- The text of node tables: a head, and for each node its name and a line for each row. Own profile.
use Rattle.std.specs.Prelude.{ℕ, List, [], ◌∷◌, ◌++◌, ◌==◌, if◌then◌else◌, codes, decimal, length, slice_index_or}
use Rattle.std.specs.List.{flat_map, range_with_len}
use Rattle.ttp_model.specs.Instance.{Instance, message_at, node_at}
use Rattle.line_text.specs.Words.{spaced, spaced_words}
use Rattle.medl_tables.specs.declared.row.Entry.{Entry}
use Rattle.medl_tables.specs.declared.row.Row.{Row}
use Rattle.medl_tables.specs.Medl.{Medl}

-- which channel it is, in front of an offset: nothing where there is one, and CHANNEL: where there are two
unfoldable pub channel_text : Instance → ℕ → List ℕ
channel_text i c = if i.cluster.channels == 1 then [] else decimal c ++ codes ":"

-- an entry: MESSAGE:OFFSET, or MESSAGE:CHANNEL:OFFSET, the message by its name
unfoldable pub entry_text : Instance → Entry → List ℕ
entry_text i e = spaced ((message_at i e.message).name ++ codes ":" ++ channel_text i e.channel ++ decimal e.offset)

-- what a row's line has behind its keyword: ROUND POSITION SENDER CAPACITY, the sender by its name
abbrev pub row_words : Instance → Row → List (List ℕ)
row_words i row = decimal row.round ∷ decimal row.position ∷ (node_at i row.sender).name ∷ decimal row.capacity ∷ []

-- the line of a row
unfoldable pub row_line : Instance → Row → List ℕ
row_line i row = codes "row" ++ spaced_words (row_words i row) ++ flat_map (entry_text i) row.messages ++ codes "\n"

-- the lines of a node's table
unfoldable pub table_text : Instance → ℕ → List Row → List ℕ
table_text i node rows = codes "node" ++ spaced (node_at i node).name ++ codes "\n" ++ flat_map (row_line i) rows

-- the lines of the table that stands at this index
unfoldable pub text_at : Instance → Medl → ℕ → List ℕ
text_at i tables node = table_text i node (slice_index_or tables.rows node [])

-- how the text begins: its version is 1 where there is one channel, and 2 where there are two
unfoldable pub head_text : Instance → List ℕ
head_text i = if i.cluster.channels == 1 then codes "ttmedl 1\nrounds" else codes "ttmedl 2\nrounds"

-- the whole text
abbrev pub tables_text : Instance → Medl → List ℕ
tables_text i tables =
    head_text i ++ spaced (decimal tables.rounds) ++ codes "\n" ++ flat_map (text_at i tables) (range_with_len 0 (length tables.rows))
