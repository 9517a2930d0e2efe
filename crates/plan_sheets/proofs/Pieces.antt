-- What is drawn of a slot: a text for its rectangle, or nothing.
use Rattle.std.proofs.Common.{◌≡◌, true, false, [], refl}
use Rattle.std.proofs.lemmas.List.{append-nil}
use Rattle.ttp_model.specs.declared.plan.Plan.{Plan}
use Rattle.ttp_model.specs.Instance.{Instance}
use Rattle.plan_sheets.specs.declared.slots.Slot.{Slot}
use Rattle.plan_sheets.specs.declared.pictures.canvas.Canvas.{Canvas}
use Rattle.plan_sheets.specs.declared.pictures.slots.Load.{Load}
use Rattle.plan_sheets.specs.SlotRectangles.{box_text, has_load, slot_piece, slot_rectangle}

module _ (c : Canvas) (i : Instance) (plan : Plan) (load : Load) (s : Slot) where
  pub drawn : has_load load s ≡ true → slot_piece c i plan load s ≡ box_text c i plan load s (slot_rectangle s)
  drawn has = rw has (append-nil (box_text c i plan load s (slot_rectangle s)))

  pub left_out : has_load load s ≡ false → slot_piece c i plan load s ≡ []
  left_out lacks = rw lacks refl
