use Rattle.std.proofs.Common.{◌≡◌, codes, arith}
use Rattle.std.proofs.lemmas.Grind.{common_steps}
use Rattle.ttp_model.specs.Instance.{node_at}
use Rattle.line_text.proofs.Pieces.{line_of_four}
use Rattle.guardian_windows.specs.Text.{window_line}
use Rattle.guardian_windows.proofs.text.push_line.Goals as goal

pub returns : goal.returns
unfolding window_line
returns c =
    let name : c.as_bytes.result.now ≡ (node_at c.args.instance.now c.args.window.now.node).name = grind (arith, common_steps) in
    let named = rw name at c.in_ok-push_word.ensures in
    line_of_four c.args.text.now.items _ _ _ _ _ (codes "window") _ _ _ _ c.in_ok-extend_from_slice.ensures.items c.in_ok-push_number_word.ensures named c.in_ok-push_number_word-2.ensures c.in_ok-push_number_word-3.ensures _ (codes "\n") c.in_ok-push.ensures.items
