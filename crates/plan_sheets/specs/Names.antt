-- How the names of a slot's messages are written: in its rectangle, and as far behind it as there is room. Own profile.
use Rattle.std.specs.Prelude.{ℕ, ◌-◌, ◌&&◌, List, ◌++◌, codes, if◌then◌else◌, length, nat_lt}
use Rattle.std.specs.List.{flat_map}
use Rattle.ttp_model.specs.declared.plan.Plan.{Plan}
use Rattle.ttp_model.specs.Instance.{Instance, message_at}
use Rattle.ttp_model.specs.Plans.{channel_of, is_on, sent_from}
use Rattle.plan_sheets.specs.declared.slots.Slot.{Slot}
use Rattle.instance_variants.specs.Slack.{least}
use Rattle.plan_sheets.specs.declared.pictures.canvas.Canvas.{Canvas}
use Rattle.plan_sheets.specs.declared.pictures.rectangle.Rectangle.{Rectangle}
use Rattle.plan_sheets.specs.Rectangles.{opening_text}

-- the name of a message, with a space before it
unfoldable pub name_text : Instance → ℕ → List ℕ
name_text i m = codes " " ++ (message_at i m).name

-- and of all of them
abbrev pub names_text : Instance → List ℕ → List ℕ
names_text i messages = flat_map (name_text i) messages

-- the ticks from a slot to that of message m, where this one comes later in the same row; else as many as the cycle has
abbrev pub ticks_to : Canvas → Instance → Plan → Slot → ℕ → ℕ
ticks_to c i plan s m =
    if is_on s.channel (channel_of plan m) && nat_lt s.start (sent_from i plan m) then sent_from i plan m - s.start else c.cycle

-- the ticks to the next slot of the row that carries a message; where there is none the picture ends before so many
abbrev pub room_of : Canvas → Instance → Plan → Slot → ℕ
room_of c i plan s = least (ticks_to c i plan s) c.cycle (length i.messages)

-- the room for the names of a slot
abbrev pub name_room : Canvas → Instance → Plan → Slot → Rectangle
name_room c i plan s = record { row = s.channel; node = s.node; start = s.start; length = room_of c i plan s }

-- what begins the names in a room
unfoldable pub beside_front : List ℕ
beside_front = codes "<g class=\"beside\">"

-- the names, and what ends them in a room
unfoldable pub beside_names : Instance → List ℕ → List ℕ
beside_names i messages = names_text i messages ++ codes "</text></svg></svg></g>"

-- the names of a slot in their room. The slot's rectangle covers their beginning, which stands in it once more
unfoldable pub beside_text : Canvas → Instance → Plan → Slot → List ℕ
beside_text c i plan s =
    beside_front ++ (opening_text c (name_room c i plan s) ++ beside_names i s.messages)
