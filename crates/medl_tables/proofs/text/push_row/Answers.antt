use Rattle.std.proofs.Common.{◌≡◌, codes, arith}
use Rattle.std.proofs.lemmas.Grind.{common_steps}
use Rattle.ttp_model.specs.Instance.{node_at}
use Rattle.line_text.proofs.Pieces.{line_of_four_and_more}
use Rattle.medl_tables.specs.Text.{row_line}
use Rattle.medl_tables.proofs.text.push_row.Goals as goal

pub returns : goal.returns
unfolding row_line
returns c =
    let name : c.as_bytes.result.now ≡ (node_at c.args.instance.now c.args.row.now.sender).name = grind (arith, common_steps) in
    let named = rw name at c.in_ok-push_word.ensures in
    let entries = rw c.as_slice.ensures at c.in_ok-push_entries.ensures in
    line_of_four_and_more c.args.text.now.items _ _ _ _ _ (codes "row") _ _ _ _ c.in_ok-extend_from_slice.ensures.items c.in_ok-push_number_word.ensures c.in_ok-push_number_word-2.ensures named c.in_ok-push_number_word-3.ensures _ _ _ (codes "\n") entries c.in_ok-push.ensures.items
