use Rattle.std.proofs.Common.{arith}
use Rattle.schedule_exports.proofs.export.choose.Goals as goal

pub overflow_add-result : goal.overflow_add-result
overflow_add-result c = omega (arith, c.in_ok-first.ensures.inside, c.name_count-end.ensures.value, c.name_count-end.ensures.few)
