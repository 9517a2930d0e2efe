-- The picture of a plan, as SVG. Own profile.
use Rattle.std.specs.Prelude.{ℕ, ◌*◌, Option, None, Some, List, [], ◌++◌, codes, decimal, if◌then◌else◌, length, nat_lt}
use Rattle.ttp_model.specs.declared.plan.Plan.{Plan}
use Rattle.ttp_model.specs.Instance.{Instance}
use Rattle.ttp_model.specs.Delays.{delay}
use Rattle.ttp_model.specs.Slots.{round_length}
use Rattle.tt_layout.specs.Cycle.{cycle_rounds}
use Rattle.plan_sheets.specs.declared.pictures.canvas.Canvas.{Canvas}
use Rattle.plan_sheets.specs.declared.pictures.picture.Shown.{Shown}
use Rattle.plan_sheets.specs.declared.pictures.picture.Shown.TheVariants.{All, Used}
use Rattle.plan_sheets.specs.declared.pictures.slots.Load.TheVariants.{Messages, Nothing}
use Rattle.plan_sheets.specs.Limits.{most_slots}
use Rattle.plan_sheets.specs.Canvas.{canvas_of}
use Rattle.plan_sheets.specs.Deadlines.{deadlines_text, horizon_text}
use Rattle.plan_sheets.specs.DeliveryLines.{lines_text}
use Rattle.plan_sheets.specs.Processes.{processes_text}
use Rattle.plan_sheets.specs.Rows.{rows_text}
use Rattle.plan_sheets.specs.Scale.{delay_text, scale_text}
use Rattle.plan_sheets.specs.SlotRectangles.{bands_text, slots_text}

-- how many slots the cycle has, whatever channels there are
abbrev pub cycle_slots : Instance → Plan → ℕ
cycle_slots i plan = cycle_rounds i plan * length i.nodes

-- the number of them, where a picture would show each and they are too many
abbrev pub too_many_slots : Instance → Plan → Shown → Option ℕ
too_many_slots i plan All = if nat_lt most_slots (cycle_slots i plan) then Some (cycle_slots i plan) else None
too_many_slots i plan Used = None

-- how texts and shapes look
unfoldable pub style_text : List ℕ
style_text =
    codes "<style>text{font:12px sans-serif;fill:#222}text.mark{text-anchor:middle}line{stroke:#555}line.mark{stroke:#ddd}line.delay{stroke:#c00;stroke-dasharray:4 3}line.horizon,.due line{stroke:#c00}text.horizon,.due text{fill:#c00}text.horizon{text-anchor:end}.due text{font-size:9px;text-anchor:middle}.track{fill:#f4f4f4}.n0{fill:#044763}.n1{fill:#d7706c}.n2{fill:#007656}.n3{fill:#c1acfe}.n4{fill:#704e01}.n5{fill:#04b3cb}.n6{fill:#bd5983}.n7{fill:#a9dc8e}.n8{fill:#044e80}.n9{fill:#da825f}.n10{fill:#017f74}.n11{fill:#edadf6}.n12{fill:#656009}.n13{fill:#16bcec}.n14{fill:#cd6372}.n15{fill:#91ecb0}text.t0,text.t2,text.t4,text.t6,text.t8,text.t10,text.t12{fill:#fff}.beside text{fill:#222}</style>\n"

-- the numbers of a plan in words
unfoldable pub figures_words : ℕ → ℕ → ℕ → List ℕ
figures_words delay round cycle =
    codes "delay " ++ (decimal delay ++ (codes ", round " ++ (decimal round ++ (codes ", cycle " ++ (decimal cycle ++ codes " ticks")))))

-- those of this plan
abbrev pub figures_text : Canvas → Instance → Plan → List ℕ
figures_text c i plan = figures_words (delay i plan) (round_length i.cluster plan.caps) c.cycle

-- what opens the picture, with its size
unfoldable pub front_text : Canvas → List ℕ
front_text c =
    codes "<svg xmlns=\"http://www.w3.org/2000/svg\" width=\"" ++ (decimal c.width ++ (codes "\" height=\"" ++ (decimal c.height
    ++ (codes "\" viewBox=\"0 0 " ++ (decimal c.width ++ (codes " " ++ (decimal c.height ++ codes "\">\n")))))))

-- these words as its title
unfoldable pub title_text : List ℕ → List ℕ
title_text words = codes "<title>" ++ (words ++ codes "</title>\n")

-- its white ground
unfoldable pub ground_text : Canvas → List ℕ
ground_text c = codes "<rect width=\"" ++ (decimal c.width ++ (codes "\" height=\"" ++ (decimal c.height ++ codes "\" fill=\"#fff\"/>\n")))

-- these words at the top
unfoldable pub caption_text : List ℕ → List ℕ
caption_text words = codes "<text x=\"8\" y=\"18\">" ++ (words ++ codes "</text>\n")

-- what begins the picture
unfoldable pub head_text : Canvas → Instance → Plan → List ℕ
head_text c i plan =
    front_text c ++ (title_text (figures_text c i plan) ++ (style_text ++ (ground_text c ++ caption_text (figures_text c i plan))))

-- the slots that carry nothing, with a white inside
abbrev pub hollow_text : Canvas → Instance → Plan → Shown → List ℕ
hollow_text c i plan All = slots_text c i plan Nothing ++ bands_text c i
hollow_text c i plan Used = []

-- what opens the part whose units are ticks, from left to right
unfoldable pub ticks_text : Canvas → List ℕ
ticks_text c =
    codes "<svg x=\"120\" width=\"" ++ (decimal c.across ++ (codes "\" height=\"" ++ (decimal c.height
    ++ (codes "\" viewBox=\"0 0 " ++ (decimal c.cycle ++ (codes " " ++ (decimal c.height ++ codes "\" preserveAspectRatio=\"none\">\n")))))))

-- slots and processes, at their ticks
unfoldable pub boxes_text : Canvas → Instance → Plan → Shown → List ℕ
boxes_text c i plan shown =
    ticks_text c ++ (hollow_text c i plan shown ++ (slots_text c i plan Messages ++ (processes_text c i plan ++ codes "</svg>\n")))

-- deadlines and the horizon, over all others, and what closes the picture
unfoldable pub limits_text : Canvas → Instance → List ℕ
limits_text c i = deadlines_text c i ++ (horizon_text c i ++ codes "</svg>\n")

-- the whole of it, on these measures
unfoldable pub whole_text : Canvas → Instance → Plan → Shown → List ℕ
whole_text c i plan shown =
    head_text c i plan ++ (rows_text c i ++ (scale_text c ++ (delay_text c (delay i plan)
    ++ (lines_text c i plan ++ (boxes_text c i plan shown ++ limits_text c i)))))

-- the picture of a plan, so many pixels wide
abbrev pub picture_text : Instance → Plan → ℕ → Shown → List ℕ
picture_text i plan width shown = whole_text (canvas_of i plan width) i plan shown
