use Rattle.std.proofs.Common.{◌≡◌, arith}
use Rattle.std.proofs.lemmas.Grind.{common_steps}
use Rattle.ttp_model.specs.Instance.{node_at, process_at}
use Rattle.plan_sheets.proofs.Growing.{first_cells, line_ends, next_cells}
use Rattle.plan_sheets.proofs.dispatch.put_dispatch.Goals as goal

pub returns : goal.returns
returns c =
    let i = c.args.instance.now in
    let row = c.args.row.now in
    let node : c.as_bytes-node.result.now ≡ (node_at i row.node).name = grind (arith, common_steps) in
    let process : c.as_bytes-process.result.now ≡ (process_at i row.process).name = grind (arith, common_steps) in
    let r1 = first_cells _ _ _ c.requires.start (rw node at c.in_ok-put.ensures) in
    let r2 = next_cells _ _ _ _ _ r1 (rw process at c.in_ok-put-2.ensures) in
    let r3 = next_cells _ _ _ _ _ r2 c.in_ok-put_numbers.ensures in
    line_ends _ _ _ _ r3 c.in_ok-end_line.ensures
