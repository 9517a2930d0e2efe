use Rattle.std.proofs.Common.{inr, List, ℕ, [], string_bytes, subst, sym}
use Rattle.sentences.specs.Shown.{Gains, IsShown}
use Rattle.rates_command.proofs.explaining.told_rates.Goals as goal

-- what a text gains that had nothing is all of it
all_shown : (text : List ℕ) → Gains IsShown [] text → IsShown text
all_shown text gains = subst IsShown (sym gains.joined) gains.are

pub returns-in_ok-put-in-Ok : goal.returns-in_ok-put-in-Ok
returns-in_ok-put-in-Ok c =
    let text = string_bytes c.put.new.text in
    inr (record {
      sizes = c.sizes_of-sizes.result;
      are = c.sizes_of-sizes.ensures;
      shown = all_shown text (subst (λ (old : List ℕ). Gains IsShown old text) c.new-text.ensures.bytes c.in_ok-put-in-Ok.ensures);
    })
