use Rattle.std.proofs.Common.{◌≡◌, length, refl, ap, arith}
use Rattle.tt_layout.proofs.Ranges.{append-flat_map-range_with_len_more}
use Rattle.medl_tables.specs.Text.{text_at}
use Rattle.medl_tables.proofs.TableParts.{tables-length, tables_name_parts}
use Rattle.medl_tables.proofs.text.print.Goals as goal

pub rows-requires : goal.rows-requires
rows-requires c = omega (arith, tables-length c.args.instance.now c.args.medl.now c.requires, ap length c.nodes-count.ensures.value)

pub push_table-requires-clause-rows : goal.push_table-requires-clause-rows
push_table-requires-clause-rows c =
    rw c.rows.ensures (tables_name_parts c.args.instance.now c.args.medl.now c.loop-node.node c.requires (omega (arith, ap length c.nodes-count.ensures.value)))

pub loop-node-preserved : goal.loop-node-preserved
unfolding text_at
loop-node-preserved c =
    let more = append-flat_map-range_with_len_more c.push.new.self.items (text_at c.args.instance.now c.args.medl.now) c.loop-node.node in
    rw (c.in_ok-push_table.ensures, c.rows.ensures, c.loop-node.invariant) more

pub returns : goal.returns
returns c =
    let all : c.loop-node.node ≡ length c.args.medl.now.rows = omega (arith, tables-length c.args.instance.now c.args.medl.now c.requires, ap length c.nodes-count.ensures.value) in
    rw (c.loop-node.invariant, all, c.in_ok-push.ensures.items, c.in_ok-push_number_word.ensures, c.in_ok-text.ensures.items, c.head.ensures, c.rounds.ensures) refl
