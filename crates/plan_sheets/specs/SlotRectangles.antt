-- How the slots are drawn, in the rows of the channels. Own profile.
use Rattle.std.specs.Prelude.{ℕ, ◌+◌, ◌-◌, ◌==◌, Bool, not, List, [], ◌∷◌, ◌++◌, codes, decimal, if◌then◌else◌, length}
use Rattle.std.specs.List.{flat_map, range_with_len}
use Rattle.ttp_model.specs.declared.plan.Plan.{Plan}
use Rattle.ttp_model.specs.Instance.{Instance, node_at}
use Rattle.tt_layout.specs.Cycle.{cycle_rounds}
use Rattle.plan_sheets.specs.declared.slots.Slot.{Slot}
use Rattle.plan_sheets.specs.Slots.{slot_of}
use Rattle.plan_sheets.specs.declared.pictures.canvas.Canvas.{Canvas}
use Rattle.plan_sheets.specs.declared.pictures.rectangle.Rectangle.{Rectangle}
use Rattle.plan_sheets.specs.declared.pictures.slots.Load.{Load}
use Rattle.plan_sheets.specs.declared.pictures.slots.Load.TheVariants.{Messages, Nothing}
use Rattle.plan_sheets.specs.Canvas.{top_of}
use Rattle.plan_sheets.specs.Names.{beside_text, names_text}
use Rattle.plan_sheets.specs.Rectangles.{opened_text, rectangle_text}

-- the rectangle of a slot
abbrev pub slot_rectangle : Slot → Rectangle
slot_rectangle s = record { row = s.channel; node = s.node; start = s.start; length = s.end - s.start }

-- a slot in words, with the name of its node
unfoldable pub slot_words : List ℕ → Slot → List ℕ
slot_words name s =
    name ++ (codes " in round " ++ (decimal s.round ++ (codes ": " ++ (decimal s.start ++ (codes " to " ++ (decimal s.end ++ (codes ", " ++ (decimal s.used ++ (codes " of " ++ (decimal s.capacity ++ codes " bytes"))))))))))

-- whether a slot has such a load
abbrev pub has_load : Load → Slot → Bool
has_load Nothing s = s.used == 0
has_load Messages s = not (s.used == 0)

-- the rectangles of a slot where slots with such a load are drawn: its own, or none
abbrev pub rectangles_with : Load → Slot → List Rectangle
rectangles_with load s = if has_load load s then slot_rectangle s ∷ [] else []

-- one of a slot that carries nothing
unfoldable pub hollow_slot_text : Instance → Slot → Rectangle → List ℕ
hollow_slot_text i s r =
    codes "<g><title>" ++ (slot_words (node_at i s.node).name s ++ (codes "</title>" ++ (rectangle_text r ++ codes "</g>\n")))

-- what begins the title of a slot that carries messages
unfoldable pub title_front : Instance → Slot → List ℕ
title_front i s = codes "<g><title>" ++ (slot_words (node_at i s.node).name s ++ codes ":")

-- the title
unfoldable pub slot_title_text : Instance → Slot → List ℕ
slot_title_text i s = title_front i s ++ (names_text i s.messages ++ codes "</title>")

-- and its rectangle, with their names
unfoldable pub slot_box_text : Canvas → Instance → Slot → Rectangle → List ℕ
slot_box_text c i s r =
    opened_text c r ++ (names_text i s.messages ++ codes "</text></svg></svg></g>\n")

-- one of a slot that carries messages, whose names stand in it and go on beside it
unfoldable pub used_slot_text : Canvas → Instance → Plan → Slot → Rectangle → List ℕ
used_slot_text c i plan s r =
    slot_title_text i s ++ (beside_text c i plan s ++ slot_box_text c i s r)

-- one of a slot with such a load
abbrev pub box_text : Canvas → Instance → Plan → Load → Slot → Rectangle → List ℕ
box_text c i plan Nothing s r = hollow_slot_text i s r
box_text c i plan Messages s r = used_slot_text c i plan s r

-- what is drawn of a slot where slots with such a load are drawn
abbrev pub slot_piece : Canvas → Instance → Plan → Load → Slot → List ℕ
slot_piece c i plan load s = flat_map (box_text c i plan load s) (rectangles_with load s)

-- of the slot at position k of round r, on a channel
unfoldable pub slot_at : Canvas → Instance → Plan → Load → ℕ → ℕ → ℕ → List ℕ
slot_at c i plan load r k channel = slot_piece c i plan load (slot_of i plan r k channel)

-- on each channel
unfoldable pub position_slots : Canvas → Instance → Plan → Load → ℕ → ℕ → List ℕ
position_slots c i plan load r k = flat_map (slot_at c i plan load r k) (range_with_len 0 i.cluster.channels)

-- those of a round, in the order of its slots
unfoldable pub round_slots : Canvas → Instance → Plan → Load → ℕ → List ℕ
round_slots c i plan load r = flat_map (position_slots c i plan load r) (range_with_len 0 (length i.nodes))

-- those of the cycle, round by round
unfoldable pub slots_text : Canvas → Instance → Plan → Load → List ℕ
slots_text c i plan load = flat_map (round_slots c i plan load) (range_with_len 0 (cycle_rounds i plan))

-- a white band in the row of a channel, which leaves three pixels of the rectangles above and below it
unfoldable pub band_text : Canvas → ℕ → List ℕ
band_text c channel =
    codes "<rect y=\"" ++ (decimal (top_of channel + 3) ++ (codes "\" width=\"" ++ (decimal c.cycle ++ codes "\" height=\"18\" fill=\"#fff\" pointer-events=\"none\"/>\n")))

-- one for each channel
unfoldable pub bands_text : Canvas → Instance → List ℕ
bands_text c i = flat_map (band_text c) (range_with_len 0 i.cluster.channels)
