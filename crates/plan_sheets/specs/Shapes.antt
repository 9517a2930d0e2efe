-- Which rectangles a slot has in a picture, and when two don't overlap. Own profile.
use Rattle.std.specs.Prelude.{◌+◌, ◌≤◌, List, ◌++◌}
use Rattle.plan_sheets.specs.declared.slots.Slot.{Slot}
use Rattle.plan_sheets.specs.declared.pictures.picture.Shown.{Shown}
use Rattle.plan_sheets.specs.declared.pictures.picture.Shown.TheVariants.{All, Used}
use Rattle.plan_sheets.specs.declared.pictures.rectangle.Rectangle.{Rectangle}
use Rattle.plan_sheets.specs.declared.pictures.slots.Load.TheVariants.{Messages, Nothing}
use Rattle.plan_sheets.specs.SlotRectangles.{rectangles_with}

-- those that are drawn of it, once for the slots that carry nothing and once for the others
abbrev pub rectangles_of : Shown → Slot → List Rectangle
rectangles_of All s = rectangles_with Nothing s ++ rectangles_with Messages s
rectangles_of Used s = rectangles_with Messages s

-- the first ends before the second begins, or just then
abbrev pub EndsBy : Rectangle → Rectangle → Type 0
EndsBy a b = a.start + a.length ≤ b.start
