use Rattle.std.proofs.Common.{◌∙◌, arith}
use Rattle.medl_tables.proofs.TableParts.{rows-medl_of, rows_name_parts, tables-length}
use Rattle.schedule_exports.proofs.loads.load_of.Goals as goal

pub rows-requires : goal.rows-requires
rows-requires c =
    omega (arith, c.requires.node, tables-length c.args.instance.now c.args.medl.now (record { plan = c.args.plan.now; valid = c.requires.valid; of = c.requires.tables }))

pub turns_of-requires-clause-rows : goal.turns_of-requires-clause-rows
turns_of-requires-clause-rows c =
    rw (c.rows.ensures, c.requires.tables, rows-medl_of c.args.instance.now c.args.plan.now c.args.node c.requires.node)
    (rows_name_parts c.args.instance.now c.args.plan.now c.args.node c.requires.valid.order)

pub returns : goal.returns
returns c =
    let rows = rw c.requires.tables at c.rows.ensures ∙ rows-medl_of c.args.instance.now c.args.plan.now c.args.node c.requires.node in
    record { there = c.requires.node; runs = c.in_ok-runs.ensures; turns = rw rows at c.in_ok-turns.ensures }
