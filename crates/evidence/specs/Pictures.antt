-- What the picture of a plan has of it: rectangles at ticks, and lines between places in tenths of a pixel.
use Rattle.std.specs.Prelude.{ℕ, ◌+◌, ◌-◌, ◌*◌, ◌/◌, ◌%◌, List, ◌++◌, codes, decimal, min}
use Rattle.ttp_model.specs.declared.plan.Plan.{Plan}
use Rattle.ttp_model.specs.Instance.{Instance, node_of, process_at, source_of}
use Rattle.ttp_model.specs.Plans.{channel_of, round_of, start_of}
use Rattle.ttp_model.specs.Slots.{duration, round_length, slot_end, slot_start}
use Rattle.tt_layout.specs.Cycle.{cycle_rounds}

-- where the rectangles of a row begin, in pixels: 52 are above the rows, each has 34, and 5 of these are above its rectangles
abbrev pub row_top : ℕ → ℕ
row_top row = 52 + 34 * row + 5

-- a rectangle in a row, in the colour of a node, of which there are sixteen, from a tick on and so many ticks long
abbrev pub rectangle_at : ℕ → ℕ → ℕ → ℕ → List ℕ
rectangle_at row node start ticks =
    codes "<rect class=\"n" ++ decimal (node % 16) ++ codes "\" x=\"" ++ decimal start ++ codes "\" y=\"" ++ decimal (row_top row)
    ++ codes "\" width=\"" ++ decimal ticks ++ codes "\" height=\"24\"/>"

-- that of a process: the rows of the channels come first, and those of the nodes follow
abbrev pub process_box : Instance → Plan → ℕ → List ℕ
process_box i plan p = rectangle_at (i.cluster.channels + node_of i p) (node_of i p) (start_of plan p) (process_at i p).wcet

-- that of the slot of node n in round r, in the row of a channel
abbrev pub slot_box : Instance → Plan → ℕ → ℕ → ℕ → List ℕ
slot_box i plan n r channel = rectangle_at channel n (slot_start i.cluster plan.order plan.caps n r) (duration i.cluster plan.caps n)

-- where a tick is, in tenths of a pixel, in a picture so many pixels wide: 120 are on the left of the cycle, and 32 on its right
abbrev pub place : Instance → Plan → ℕ → ℕ → ℕ
place i plan width tick = tick * (10 * (width - 120 - 32)) / (cycle_rounds i plan * round_length i.cluster plan.caps) + 1200

-- and so written
abbrev pub tick_place : Instance → Plan → ℕ → ℕ → List ℕ
tick_place i plan width tick = decimal (place i plan width tick / 10) ++ codes "." ++ decimal (place i plan width tick % 10)

-- the row of the channel that a message is on, and of one on both the lower row
abbrev pub channel_row : Instance → Plan → ℕ → ℕ
channel_row i plan m = min (channel_of plan m) (i.cluster.channels - 1)

-- the line from the end of a message's slot, where that row's rectangles end, to the start of its receiver q, where this one's begin
abbrev pub delivery_line : Instance → Plan → ℕ → ℕ → ℕ → List ℕ
delivery_line i plan width m q =
    let sent = slot_end i.cluster plan.order plan.caps (source_of i m) (round_of plan m) in
    codes "<line x1=\"" ++ tick_place i plan width sent ++ codes "\" y1=\"" ++ decimal (row_top (channel_row i plan m) + 24)
    ++ codes "\" x2=\"" ++ tick_place i plan width (start_of plan q) ++ codes "\" y2=\"" ++ decimal (row_top (i.cluster.channels + node_of i q)) ++ codes "\">"
