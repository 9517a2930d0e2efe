use Rattle.std.proofs.Common.{◌≡◌, length, refl, ap, arith}
use Rattle.std.proofs.lemmas.List.FromFn.{length-map-range_with_len}
use Rattle.tt_layout.proofs.Ranges.{append-flat_map-range_with_len_more}
use Rattle.medl_tables.specs.Text.{text_at}
use Rattle.plan_cycles.specs.Rounds.{rows_in, tables_in}
use Rattle.plan_cycles.proofs.longer.tables.tables_text.Goals as goal

pub loop-node-preserved : goal.loop-node-preserved
loop-node-preserved c =
    let tables = tables_in c.args.rounds c.args.instance.now c.args.plan.now in
    let more = append-flat_map-range_with_len_more c.push.new.self.items (text_at c.args.instance.now tables) c.loop-node.node in
    let next = c.in_ok-push_node.ensures c.args.rounds (rw c.as_slice.ensures.value c.in_ok-behind.ensures) in
    rw (next, c.loop-node.invariant) more

pub returns : goal.returns
returns c =
    let i = c.args.instance.now in
    let nodes = length-map-range_with_len (rows_in c.args.rounds i c.args.plan.now) 0 (length i.nodes) in
    let all : c.loop-node.node ≡ length (tables_in c.args.rounds i c.args.plan.now).rows = omega (arith, nodes, c.loop-node-test.false, c.loop-node.auto.node-end, ap length c.nodes-count.ensures.value) in
    rw (c.loop-node.invariant, all, c.in_ok-push.ensures.items, c.in_ok-push_number_word.ensures, c.from.ensures, c.in_ok-text.ensures.items, c.head.ensures) refl
