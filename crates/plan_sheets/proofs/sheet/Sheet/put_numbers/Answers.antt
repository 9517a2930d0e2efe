use Rattle.std.proofs.Common.{arith, decimal}
use Rattle.std.proofs.lemmas.List.{take_all}
use Rattle.plan_sheets.proofs.Growing.{cells_begin, cells_grow}
use Rattle.plan_sheets.proofs.sheet.Sheet.put_numbers.Goals as goal

pub put_number-requires : goal.put_number-requires
put_number-requires c = c.loop-number.invariant.tidy

pub loop-number-init : goal.loop-number-init
loop-number-init c = cells_begin _ c.requires

pub loop-number-preserved : goal.loop-number-preserved
loop-number-preserved c =
    cells_grow _ _ _ _ decimal c.args.numbers.now c.loop-number.number-index c.loop-number-test.true c.loop-number.invariant c.in_ok-put_number.ensures

pub returns : goal.returns
returns c = rw (take_all c.loop-number.number-index c.args.numbers.now (omega arith)) at c.loop-number.invariant
