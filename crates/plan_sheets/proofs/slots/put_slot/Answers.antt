use Rattle.std.proofs.Common.{◌≡◌, arith}
use Rattle.std.proofs.lemmas.Grind.{common_steps}
use Rattle.ttp_model.specs.Instance.{node_at}
use Rattle.plan_sheets.proofs.Growing.{first_cells, line_ends, next_cells}
use Rattle.plan_sheets.proofs.slots.put_slot.Goals as goal

pub returns : goal.returns
returns c =
    let node : c.as_bytes-node.result.now ≡ (node_at c.args.instance.now c.args.row.now.node).name = grind (arith, common_steps) in
    let r1 = first_cells _ _ _ c.requires.start c.in_ok-put_numbers.ensures in
    let r2 = next_cells _ _ _ _ _ r1 (rw node at c.in_ok-put.ensures) in
    let r3 = next_cells _ _ _ _ _ r2 c.in_ok-put_numbers-2.ensures in
    let r4 = next_cells _ _ _ _ _ r3 (rw c.as_slice.ensures at c.in_ok-put_names.ensures) in
    line_ends _ _ _ _ r4 c.in_ok-end_line.ensures
