use Rattle.std.proofs.Common.{◌≡◌, codes, arith}
use Rattle.std.proofs.lemmas.Grind.{common_steps}
use Rattle.std.proofs.lemmas.List.{take_all}
use Rattle.ttp_model.specs.Instance.{node_at}
use Rattle.line_text.proofs.Pieces.{four_pieces}
use Rattle.medl_tables.specs.Text.{table_text}
use Rattle.medl_tables.proofs.text.push_table.Goals as goal

pub returns : goal.returns
unfolding table_text
returns c =
    let name : c.as_bytes.result.now ≡ (node_at c.args.instance.now c.args.node).name = grind (arith, common_steps) in
    let named = rw name at c.in_ok-push_word.ensures in
    let lines = rw (take_all c.loop-row.row-index c.args.rows.now (omega arith)) at c.loop-row.invariant in
    four_pieces c.args.text.now.items _ _ _ (codes "node") _ (codes "\n") c.in_ok-extend_from_slice.ensures.items named c.in_ok-push.ensures.items _ _ lines
