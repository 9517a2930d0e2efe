use Rattle.std.proofs.Common.{◌∙◌, sym}
use Rattle.std.proofs.lemmas.List.{append-nil}
use Rattle.plan_sheets.proofs.Pieces.{drawn, left_out}
use Rattle.plan_sheets.proofs.pictures.slots.put_slot.Goals as goal

pub returns-then-not-is_of : goal.returns-then-not-is_of
returns-then-not-is_of c =
    let lacks = sym c.is_of.ensures ∙ c.if-not-is_of.true in
    rw (left_out c.args.canvas.now c.args.instance.now c.args.plan.now c.args.load c.args.slot.now lacks) (sym (append-nil _))

pub returns-in-Nothing : goal.returns-in-Nothing
returns-in-Nothing c =
    let has = sym c.is_of.ensures ∙ c.if-not-is_of.false in
    rw (drawn c.args.canvas.now c.args.instance.now c.args.plan.now c.args.load c.args.slot.now has, c.in-Nothing.is) c.put_hollow_slot.ensures

pub returns-in-Messages : goal.returns-in-Messages
returns-in-Messages c =
    let has = sym c.is_of.ensures ∙ c.if-not-is_of.false in
    rw (drawn c.args.canvas.now c.args.instance.now c.args.plan.now c.args.load c.args.slot.now has, c.in-Messages.is) c.put_used_slot.ensures
