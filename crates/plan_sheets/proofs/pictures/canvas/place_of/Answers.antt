use Rattle.std.proofs.Common.{arith}
use Rattle.plan_sheets.proofs.Places.{product-fits}
use Rattle.plan_sheets.proofs.pictures.canvas.place_of.Goals as goal

pub overflow_mul-result : goal.overflow_mul-result
overflow_mul-result c = omega (arith, product-fits c.args.tick c.args.canvas.now.across c.requires.inside c.requires.sound.narrow)
