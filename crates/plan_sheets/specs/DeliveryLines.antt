-- How the lines of messages are drawn. Own profile.
use Rattle.std.specs.Prelude.{ℕ, ◌+◌, ◌-◌, ◌≤◌, List, ◌++◌, codes, decimal, length, min}
use Rattle.std.specs.List.{flat_map, range_with_len}
use Rattle.ttp_model.specs.declared.limits.TheConstants.{MOST_TICKS}
use Rattle.ttp_model.specs.declared.plan.Plan.{Plan}
use Rattle.ttp_model.specs.Instance.{Instance, message_at, node_of, process_at, source_of}
use Rattle.ttp_model.specs.Plans.{channel_of, end_of, sent_from, sent_until, start_of}
use Rattle.plan_sheets.specs.declared.pictures.canvas.Canvas.{Canvas}
use Rattle.plan_sheets.specs.declared.pictures.lines.Line.{Line}
use Rattle.plan_sheets.specs.Canvas.{place_text, row_of, top_of}

-- the row that a message's lines lead to and from: its channel's, and the lower of the two where it is on both
abbrev pub sent_row : Instance → Plan → ℕ → ℕ
sent_row i plan m = min (channel_of plan m) (i.cluster.channels - 1)

-- how far down the rectangles of that row end
abbrev pub sent_bottom : Instance → Plan → ℕ → ℕ
sent_bottom i plan m = top_of (sent_row i plan m) + 24

-- from the end of a message's sender to the start of its slot
abbrev pub sending_of : Instance → Plan → ℕ → Line
sending_of i plan m = record {
  from = end_of i plan (message_at i m).sender;
  from_height = top_of (row_of i (source_of i m));
  to = sent_from i plan m;
  to_height = sent_bottom i plan m;
}

-- from the end of a message's slot to the start of its receiver q
abbrev pub delivery_of : Instance → Plan → ℕ → ℕ → Line
delivery_of i plan m q = record {
  from = sent_until i plan m;
  from_height = sent_bottom i plan m;
  to = start_of plan q;
  to_height = top_of (row_of i (node_of i q));
}

-- both of its ends are within any horizon
pub record IsNear (l : Line) : Type 0 where
  pub from : l.from ≤ MOST_TICKS
  pub to : l.to ≤ MOST_TICKS

-- it doesn't lead to the left
abbrev pub LeadsOn : Line → Type 0
LeadsOn l = l.from ≤ l.to

-- what begins a line, behind which its title stands
unfoldable pub line_text : Canvas → Line → List ℕ
line_text c l =
    codes "<line x1=\"" ++ (place_text c l.from ++ (codes "\" y1=\"" ++ (decimal l.from_height ++ (codes "\" x2=\"" ++ (place_text c l.to ++ (codes "\" y2=\"" ++ (decimal l.to_height ++ codes "\">")))))))

-- the title of a line from a sender
unfoldable pub sending_title : List ℕ → List ℕ → Line → List ℕ
sending_title name sender l =
    codes "<title>" ++ (name ++ (codes ": " ++ (sender ++ (codes " ends at " ++ (decimal l.from ++ (codes ", slot at " ++ (decimal l.to ++ codes "</title></line>\n")))))))

-- the line of a message to its slot, with its numbers
unfoldable pub sending_text : Canvas → Instance → Plan → ℕ → List ℕ
sending_text c i plan m =
    line_text c (sending_of i plan m) ++ sending_title (message_at i m).name (process_at i (message_at i m).sender).name (sending_of i plan m)

-- the title of a line to a receiver
unfoldable pub delivery_title : List ℕ → List ℕ → Line → List ℕ
delivery_title name receiver l =
    codes "<title>" ++ (name ++ (codes ": slot ends at " ++ (decimal l.from ++ (codes ", " ++ (receiver ++ (codes " starts at " ++ (decimal l.to ++ codes "</title></line>\n")))))))

-- its line to a receiver
unfoldable pub delivery_text : Canvas → Instance → Plan → ℕ → ℕ → List ℕ
delivery_text c i plan m q =
    line_text c (delivery_of i plan m q) ++ delivery_title (message_at i m).name (process_at i q).name (delivery_of i plan m q)

-- its lines to all receivers, in their order
unfoldable pub deliveries_text : Canvas → Instance → Plan → ℕ → List ℕ
deliveries_text c i plan m = flat_map (delivery_text c i plan m) (message_at i m).receivers

-- all lines of a message
unfoldable pub message_text : Canvas → Instance → Plan → ℕ → List ℕ
message_text c i plan m = sending_text c i plan m ++ deliveries_text c i plan m

-- those of all messages
unfoldable pub lines_text : Canvas → Instance → Plan → List ℕ
lines_text c i plan = flat_map (message_text c i plan) (range_with_len 0 (length i.messages))
