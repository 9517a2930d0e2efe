use Rattle.std.proofs.Common.{◌≡◌, [], codes, slice_index, arith, sym}
use Rattle.std.proofs.lemmas.Grind.{common_steps}
use Rattle.std.proofs.lemmas.List.{append-nil}
use Rattle.ttp_model.specs.Instance.{node_at}
use Rattle.line_text.proofs.Pieces.{line_of_four_and_more}
use Rattle.medl_tables.specs.Text.{row_line}
use Rattle.plan_cycles.proofs.longer.tables.push_row.Goals as goal

pub returns : goal.returns
unfolding row_line
returns c =
    let sender = slice_index c.args.plan.now.order c.args.k in
    let name : c.as_bytes.result.now ≡ (node_at c.args.instance.now sender).name = grind (arith, common_steps) in
    let named = rw name at c.in_ok-push_word.ensures in
    let round = rw c.from.ensures at c.in_ok-push_number_word.ensures in
    let capacity = rw (c.from-2.ensures, c.as_slice-2.ensures, c.as_slice.ensures) at c.in_ok-push_number_word-3.ensures in
    line_of_four_and_more c.args.lines.now.items _ _ _ _ c.push_number_word-3.new.text.items (codes "row") _ _ _ _ c.in_ok-extend_from_slice.ensures.items
    round c.in_ok-push_number_word-2.ensures named capacity _ _ [] (codes "\n") (sym (append-nil c.push_number_word-3.new.text.items)) c.in_ok-push.ensures.items
