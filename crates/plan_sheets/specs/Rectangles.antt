-- A rectangle of a row, as SVG: its ticks are the plan's, and its height is in pixels. Own profile.
use Rattle.std.specs.Prelude.{ℕ, List, ◌++◌, codes, decimal}
use Rattle.plan_sheets.specs.declared.pictures.canvas.Canvas.{Canvas}
use Rattle.plan_sheets.specs.declared.pictures.rectangle.Rectangle.{Rectangle}
use Rattle.plan_sheets.specs.Canvas.{colour_of, top_of}

-- itself, in the colour of its node
unfoldable pub rectangle_text : Rectangle → List ℕ
rectangle_text r =
    codes "<rect class=\"n" ++ (decimal (colour_of r.node) ++ (codes "\" x=\"" ++ (decimal r.start
    ++ (codes "\" y=\"" ++ (decimal (top_of r.row) ++ (codes "\" width=\"" ++ (decimal r.length ++ codes "\" height=\"24\"/>")))))))

-- an svg element at its ticks
unfoldable pub frame_text : ℕ → ℕ → ℕ → List ℕ
frame_text start top length =
    codes "<svg x=\"" ++ (decimal start ++ (codes "\" y=\"" ++ (decimal top ++ (codes "\" width=\"" ++ (decimal length ++ codes "\" height=\"24\">")))))

-- one whose units are pixels, with the beginning of a text on the colour of a node
unfoldable pub pixels_text : ℕ → ℕ → ℕ → List ℕ
pixels_text cycle across node =
    codes "<svg width=\"" ++ (decimal cycle ++ (codes "\" height=\"24\" viewBox=\"0 0 " ++ (decimal across
    ++ (codes " 24\" preserveAspectRatio=\"none\"><text class=\"t" ++ (decimal (colour_of node) ++ codes "\" x=\"4\" y=\"16\">")))))

-- what begins a text that is cut off where the rectangle ends: the second in the first
unfoldable pub opening_text : Canvas → Rectangle → List ℕ
opening_text c r = frame_text r.start (top_of r.row) r.length ++ pixels_text c.cycle c.across r.node

-- a rectangle, and the beginning of a text in it
unfoldable pub opened_text : Canvas → Rectangle → List ℕ
opened_text c r = rectangle_text r ++ opening_text c r
