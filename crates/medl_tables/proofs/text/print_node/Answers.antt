use Rattle.std.proofs.Common.{refl}
use Rattle.medl_tables.specs.Text.{text_at}
use Rattle.medl_tables.proofs.TableParts.{rows-medl_of, rows_name_parts}
use Rattle.medl_tables.proofs.text.print_node.Goals as goal

pub push_table-requires-clause-rows : goal.push_table-requires-clause-rows
push_table-requires-clause-rows c =
    rw (c.as_slice.ensures.value, c.in_ok-rows.ensures) (rows_name_parts c.args.instance.now c.args.plan.now c.args.node c.requires.valid.order)

pub returns : goal.returns
unfolding text_at
returns c =
    rw (rows-medl_of c.args.instance.now c.args.plan.now c.args.node c.requires.node, c.in_ok-push_table.ensures, c.as_slice.ensures.value, c.in_ok-rows.ensures, c.new-text.ensures.items) refl
