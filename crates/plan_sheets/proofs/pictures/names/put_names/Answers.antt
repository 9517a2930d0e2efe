use Rattle.std.proofs.Common.{◌≡◌, ◌++◌, arith, slice_index, string_bytes}
use Rattle.std.proofs.lemmas.Grind.{common_steps}
use Rattle.plan_sheets.specs.Names.{name_text}
use Rattle.plan_sheets.proofs.PictureGrowing.{list_grows}
use Rattle.plan_sheets.proofs.pictures.names.put_names.Goals as goal

pub loop-m-preserved : goal.loop-m-preserved
unfolding name_text
loop-m-preserved c =
    let piece : string_bytes c.write.new.self ≡ string_bytes c.loop-m.text ++ name_text c.args.instance.now (slice_index c.args.messages.now c.loop-m.m-index) = grind (arith, common_steps) in
    list_grows _ _ _ (name_text c.args.instance.now) c.args.messages.now c.loop-m.m-index c.loop-m-test.true c.loop-m.invariant piece
