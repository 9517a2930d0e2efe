use Rattle.std.proofs.Common.{◌≡◌, codes, arith}
use Rattle.std.proofs.lemmas.Grind.{common_steps}
use Rattle.ttp_model.specs.Instance.{message_at}
use Rattle.line_text.proofs.Pieces.{four_pieces, spaced-append}
use Rattle.medl_tables.specs.Text.{entry_text}
use Rattle.medl_tables.proofs.text.push_entry.Goals as goal

pub returns : goal.returns
unfolding entry_text
returns c =
    let name : c.as_bytes.result.now ≡ (message_at c.args.instance.now c.args.entry.now.message).name = grind (arith, common_steps) in
    let named = rw name at c.in_ok-push_word.ensures in
    let colon = c.in_ok-push.ensures.items in
    let channel = c.in_ok-push_channel.ensures in
    rw (spaced-append, spaced-append, spaced-append)
    (four_pieces c.args.text.now.items _ _ _ _ (codes ":") _ named colon channel _ _ c.in_ok-push_number.ensures.ok)
