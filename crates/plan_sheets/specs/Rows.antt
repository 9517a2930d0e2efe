-- How the rows are named. Own profile.
use Rattle.std.specs.Prelude.{ℕ, List, ◌++◌, codes, decimal, length}
use Rattle.std.specs.List.{flat_map, range_with_len}
use Rattle.ttp_model.specs.Instance.{Instance, node_at}
use Rattle.plan_sheets.specs.declared.pictures.canvas.Canvas.{Canvas}
use Rattle.plan_sheets.specs.Canvas.{colour_of, row_of, top_of}

-- the ground of a row
unfoldable pub track_text : Canvas → ℕ → List ℕ
track_text c row =
    codes "<rect class=\"track\" x=\"120\" y=\"" ++ (decimal (top_of row) ++ (codes "\" width=\"" ++ (decimal c.across ++ codes "\" height=\"24\"/>\n")))

-- the row of a channel
unfoldable pub channel_text : Canvas → ℕ → List ℕ
channel_text c channel =
    track_text c channel ++ (codes "<svg y=\"" ++ (decimal (top_of channel) ++ (codes "\" width=\"116\" height=\"24\"><text x=\"8\" y=\"16\">channel " ++ (decimal channel ++ codes "</text></svg>\n"))))

-- the colour of a node, so far down
unfoldable pub colour_text : ℕ → ℕ → List ℕ
colour_text n top =
    codes "<rect class=\"n" ++ (decimal (colour_of n) ++ (codes "\" x=\"8\" y=\"" ++ (decimal top ++ codes "\" width=\"8\" height=\"24\"/>")))

-- its name
unfoldable pub label_text : List ℕ → ℕ → List ℕ
label_text name top =
    codes "<svg y=\"" ++ (decimal top ++ (codes "\" width=\"116\" height=\"24\"><title>" ++ (name ++ (codes "</title><text x=\"22\" y=\"16\">" ++ (name ++ codes "</text></svg>\n")))))

-- the row of a node, with its colour
unfoldable pub node_text : Canvas → Instance → ℕ → List ℕ
node_text c i n =
    track_text c (row_of i n) ++ (colour_text n (top_of (row_of i n)) ++ label_text (node_at i n).name (top_of (row_of i n)))

-- the rows of the channels
unfoldable pub channels_text : Canvas → Instance → List ℕ
channels_text c i = flat_map (channel_text c) (range_with_len 0 i.cluster.channels)

-- those of the nodes, in the instance's order
unfoldable pub nodes_text : Canvas → Instance → List ℕ
nodes_text c i = flat_map (node_text c i) (range_with_len 0 (length i.nodes))

-- and both
unfoldable pub rows_text : Canvas → Instance → List ℕ
rows_text c i = channels_text c i ++ nodes_text c i
