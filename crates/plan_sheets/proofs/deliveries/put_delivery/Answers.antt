use Rattle.std.proofs.Common.{◌≡◌, arith}
use Rattle.std.proofs.lemmas.Grind.{common_steps}
use Rattle.ttp_model.specs.Instance.{message_at, node_at, process_at}
use Rattle.plan_sheets.proofs.Growing.{first_cells, line_ends, next_cells}
use Rattle.plan_sheets.proofs.deliveries.put_delivery.Goals as goal

pub returns : goal.returns
returns c =
    let i = c.args.instance.now in
    let row = c.args.row.now in
    let message : c.as_bytes-message.result.now ≡ (message_at i row.message).name = grind (arith, common_steps) in
    let sender : c.as_bytes-sender.result.now ≡ (process_at i row.sender).name = grind (arith, common_steps) in
    let receiver : c.as_bytes-receiver.result.now ≡ (process_at i row.receiver).name = grind (arith, common_steps) in
    let node : c.as_bytes-node.result.now ≡ (node_at i row.node).name = grind (arith, common_steps) in
    let r1 = first_cells _ _ _ c.requires.start (rw message at c.in_ok-put.ensures) in
    let r2 = next_cells _ _ _ _ _ r1 (rw sender at c.in_ok-put-2.ensures) in
    let r3 = next_cells _ _ _ _ _ r2 (rw receiver at c.in_ok-put-3.ensures) in
    let r4 = next_cells _ _ _ _ _ r3 c.in_ok-put_numbers.ensures in
    let r5 = next_cells _ _ _ _ _ r4 c.in_ok-put_channel.ensures in
    let r6 = next_cells _ _ _ _ _ r5 (rw node at c.in_ok-put-4.ensures) in
    let r7 = next_cells _ _ _ _ _ r6 c.in_ok-put_numbers-2.ensures in
    line_ends _ _ _ _ r7 c.in_ok-end_line.ensures
