-- How large a picture is, and where in it a tick is. Own profile.
use Rattle.std.specs.Prelude.{ℕ, ◌+◌, ◌-◌, ◌*◌, ◌/◌, ◌%◌, ◌<◌, ◌≤◌, List, ◌++◌, codes, decimal, length}
use Rattle.ttp_model.specs.declared.plan.Plan.{Plan}
use Rattle.ttp_model.specs.Instance.{Instance}
use Rattle.ttp_model.specs.Slots.{round_length}
use Rattle.tt_layout.specs.Cycle.{cycle_rounds}
use Rattle.plan_sheets.specs.declared.pictures.canvas.Canvas.{Canvas}
use Rattle.plan_sheets.specs.declared.pictures.canvas.TheConstants.{MOST_CYCLE}
use Rattle.plan_sheets.specs.Limits.{most_width}

-- how long the cycle is, in ticks
abbrev pub cycle_ticks : Instance → Plan → ℕ
cycle_ticks i plan = cycle_rounds i plan * round_length i.cluster plan.caps

-- the measures of a picture so many pixels wide: 120 on the left are for names, and 32 on the right for the last mark;
-- 52 on the top are for the scale, each row has 34, and 8 are left at the bottom
abbrev pub canvas_of : Instance → Plan → ℕ → Canvas
canvas_of i plan width = record {
  width = width;
  height = 52 + 34 * (i.cluster.channels + length i.nodes) + 8;
  across = width - 120 - 32;
  cycle = cycle_ticks i plan;
}

-- the row of a node: the channels' rows come first, and then the nodes' in the instance's order
abbrev pub row_of : Instance → ℕ → ℕ
row_of i n = i.cluster.channels + n

-- where the rectangles of a row begin, in pixels from the top
abbrev pub top_of : ℕ → ℕ
top_of row = 52 + 34 * row + 5

-- the colour of a node: there are sixteen, and behind the last one the first comes again
abbrev pub colour_of : ℕ → ℕ
colour_of n = n % 16

-- where a tick is, in tenths of a pixel from the left, rounded down
abbrev pub place_of : Canvas → ℕ → ℕ
place_of c tick = tick * (10 * c.across) / c.cycle + 1200

-- so many tenths of a pixel
unfoldable pub tenths_text : ℕ → List ℕ
tenths_text tenths = decimal (tenths / 10) ++ (codes "." ++ decimal (tenths % 10))

-- the place of a tick, written
abbrev pub place_text : Canvas → ℕ → List ℕ
place_text c tick = tenths_text (place_of c tick)

-- the cycle has a tick, and no number is large
pub record IsCanvas (c : Canvas) : Type 0 where
  pub some : 0 < c.cycle
  pub short : c.cycle ≤ MOST_CYCLE
  pub narrow : c.across ≤ most_width
  pub high : 8 ≤ c.height
