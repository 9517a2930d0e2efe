use Rattle.std.proofs.Common.{◌≡◌, ◌∙◌, List, ℕ, [], string_bytes, subst, sym}
use Rattle.sentences.specs.Shown.{Gains, IsShown}
use Rattle.sentences.proofs.Growing.{gains_more}
use Rattle.explain_command.proofs.explaining.described.Goals as goal

-- what a text gains that had nothing is all of it
all_shown : (text : List ℕ) → Gains IsShown [] text → IsShown text
all_shown text gains = subst IsShown (sym gains.joined) gains.are

pub returns-clause-ok : goal.returns-clause-ok
returns-clause-ok c =
    let text_2 = string_bytes c.put-2.new.text in
    let text_3 = string_bytes c.put-3.new.text in
    let first : Gains IsShown [] (string_bytes c.put.new.text) =
    subst (λ (text : List ℕ). Gains IsShown text (string_bytes c.put.new.text)) c.new-text.ensures.bytes c.in_ok-put.ensures in
    record {
      sizes = c.in_ok-sizes.sizes;
      are_sizes = c.in_ok-sizes.ensures;
      chain = c.in_ok-chain.chain;
      is_chain = c.in_ok-chain.ensures;
      late = c.in_ok-late.late;
      are_late = c.in_ok-late.ensures;
      shown = all_shown text_3 (gains_more [] text_2 text_3 (gains_more [] (string_bytes c.put.new.text) text_2 first c.in_ok-put-2.ensures) c.in_ok-put-3.ensures);
    }
